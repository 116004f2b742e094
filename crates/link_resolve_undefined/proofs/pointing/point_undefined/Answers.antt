use Rattle.std.proofs.Common.{◌≡◌, ◌+◌, ◌<◌, ◌∙◌, ◌++◌, ℕ, List, All, ap, arith, drop, length, length-append, subst, sym, take}
use Rattle.std.proofs.lemmas.List.Elements.{All-append}
use Rattle.std.proofs.lemmas.Grind.{common_steps}
use Rattle.link_db_files.specs.GroupFiles.{symbols_in}
use Rattle.link_rules.specs.Places.{each_from}
use Rattle.link_rules.specs.Rivals.{versioned_table}
use Rattle.link_rules.specs.Undefined.{final_entry, left_undefined}
use Rattle.link_resolve_undefined.specs.Asked.{first_new_in, makers_in}
use Rattle.link_resolve_undefined.proofs.Below.{ids-below}
use Rattle.link_resolve_undefined.proofs.Editing.{length-each}
use Rattle.link_resolve_undefined.proofs.FinalEntries.{new-ids}
use Rattle.link_resolve_undefined.proofs.pointing.point_undefined.Goals as goal

pub returns-clause-ok : goal.returns-clause-ok
returns-clause-ok g c = λ l. λ are. λ is.
    let whole : take c.append.new.self.len (c.point_references.new.table ++ drop (length c.point_references.new.table) c.append.new.self.items) ≡ c.point_references.new.table = grind (arith, common_steps) in
    let lent : c.as_mut_slice.result.now ≡ versioned_table l ++ c.in_ok-new.new.items = c.as_mut_slice.ensures.value ∙ (c.in_ok-append.ensures.items ∙ (λ i. is i ++ c.in_ok-new.new.items)) in
    whole
    ∙ (c.point_references.ensures.entries l c.in_ok-new.new.items are lent
    ∙ ap (λ (ids : List ℕ). each_from (final_entry l (left_undefined l) (versioned_table l)) 0 l.stage.symbols ++ ids)
    (c.in_ok-new.ensures ∙ new-ids (symbols_in c.args.files.now.groups) c.args.left.now c.args.asked.now l are))

pub returns-clause-len : goal.returns-clause-len
returns-clause-len g c =
    let asked = c.args.asked.now in
    let new : length c.in_ok-new.new.items ≡ length (makers_in asked) = ap length c.in_ok-new.ensures ∙ length-each (λ (s m : ℕ). s) (first_new_in asked) (makers_in asked) in
    let whole : take c.append.new.self.len (c.point_references.new.table ++ drop (length c.point_references.new.table) c.append.new.self.items) ≡ c.point_references.new.table = grind (arith, common_steps) in
    let many : length c.point_references.new.table ≡ length c.args.table.now.items + length (makers_in asked) =
    omega (arith, new, ap length c.in_ok-append.ensures.items, length-append c.args.table.now.items c.in_ok-new.new.items, ap length c.as_mut_slice.ensures.value, c.point_references.auto.table) in
    ap length whole ∙ many

pub returns-clause-below : goal.returns-clause-below
returns-clause-below g c = λ count. λ below. λ le. λ all.
    let asked = c.args.asked.now in
    let new : All (λ t. t < count) c.in_ok-new.new.items = subst (All (λ t. t < count)) (sym c.in_ok-new.ensures) (ids-below count (first_new_in asked) (makers_in asked) below.new) in
    let both : All (λ t. t < count) c.as_mut_slice.result.now =
    subst (All (λ t. t < count)) (sym (c.as_mut_slice.ensures.value ∙ c.in_ok-append.ensures.items)) (All-append (λ t. t < count) c.args.table.now.items c.in_ok-new.new.items all new) in
    let whole : take c.append.new.self.len (c.point_references.new.table ++ drop (length c.point_references.new.table) c.append.new.self.items) ≡ c.point_references.new.table = grind (arith, common_steps) in
    subst (All (λ t. t < count)) (sym whole) (c.point_references.ensures.below count below le both)
