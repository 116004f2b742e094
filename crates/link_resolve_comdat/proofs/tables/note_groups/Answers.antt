use Rattle.std.proofs.Common.{◌≡◌, ◌∙◌, sym, ap, ℕ, None, Some, List, if◌then◌else◌, length, arith}
use Rattle.std.specs.Option.{option_or}
use Rattle.link_rules.specs.Places.{contains}
use Rattle.link_resolve_comdat.specs.Tables.{group_at, is_noted, first_again}
use Rattle.link_resolve_comdat.proofs.Marks.{inside-at, inside-members}
use Rattle.link_resolve_comdat.proofs.Noting.{again-in, again-behind, groups-behind}
use Rattle.link_resolve_comdat.proofs.tables.note_groups.Goals as goal

pub note_members-requires : goal.note_members-requires
note_members-requires c =
    let g = c.index-groups-i.result in
    rw c.members.ensures (inside-members _ g (inside-at _ (length c.loop-i.member_of) c.args.groups.now c.loop-i.i g c.requires c.loop-i-test.true c.index-groups-i.is (omega arith)))

pub returns-in-Some-clause-again : goal.returns-in-Some-clause-again
returns-in-Some-clause-again c =
    let g = c.index-groups-i.result in
    let found : Some c.in-Some.section ≡ first_again (is_noted c.loop-i.member_of) g.members = rw c.members.ensures at c.in-Some.ensures.again in
    again-in (is_noted c.loop-i.member_of) c.args.groups.now c.loop-i.i g c.in-Some.section c.loop-i-test.true c.index-groups-i.is found ∙ sym c.loop-i.invariant.again

pub loop-i-preserved : goal.loop-i-preserved
loop-i-preserved c =
    let g = c.index-groups-i.result in
    let old = c.loop-i.member_of in
    let new = c.note_members.new.member_of in
    let none : None ≡ first_again (is_noted old) g.members = rw c.members.ensures at c.in_default.ensures.again in
    let notes : (n : ℕ) → group_at new n ≡ option_or (group_at old n) (if contains n g.members then Some c.loop-i.i else None) =
    λ n. c.in_default.ensures.noted n ∙ ap (λ (members : List ℕ). option_or (group_at old n) (if contains n members then Some c.loop-i.i else None)) c.members.ensures in
    record {
      again = c.loop-i.invariant.again ∙ again-behind old new c.args.groups.now c.loop-i.i g c.loop-i-test.true c.index-groups-i.is none notes;
      noted = λ n. groups-behind old new c.args.groups.now c.loop-i.i n g c.loop-i-test.true c.index-groups-i.is (notes n) ∙ c.loop-i.invariant.noted n;
    }
