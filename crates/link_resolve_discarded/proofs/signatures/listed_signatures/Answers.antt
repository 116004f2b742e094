use Rattle.std.proofs.Common.{◌≡◌, ◌+◌, ◌++◌, ◌∷◌, ◌∙◌, ℕ, List, Option, drop, length, map, ap, sym, arith, append_assoc, length-append}
use Rattle.std.specs.Prelude.{unwrap_or}
use Rattle.std.specs.List.{enumerate_from, flat_map}
use Rattle.std.proofs.lemmas.List.{drop_more, length-map}
use Rattle.link_db_files.specs.GroupFiles.{symbols_in}
use Rattle.link_db_files.specs.Inputs.{objects_in}
use Rattle.link_input_groups.specs.declared.group.Group.{Group}
use Rattle.link_input.specs.ObjectFile.{ObjectFile}
use Rattle.link_resolve_discarded.specs.Indexed.{index_at}
use Rattle.link_resolve_discarded.specs.Signatures.{signatures_at, signatures_from}
use Rattle.link_resolve_discarded.proofs.Numbered.{first-there}
use Rattle.link_resolve_discarded.proofs.signatures.listed_signatures.Goals as goal

-- there is room for the symbols of the object
pub push_object-requires : goal.push_object-requires
push_object-requires g c =
    let groups = c.args.files.now.groups in
    let objects = c.deref-object-items.result.now in
    let k = c.loop-object.object-index in
    let o = c.object-item.result in
    let are : objects ≡ enumerate_from 0 (objects_in groups) =
    c.deref-object-items.ensures.value ∙ (c.in_ok-objects.ensures ∙ ap (λ (gs : List (Group g.row.P.Denot)). enumerate_from 0 (objects_in gs)) c.groups.ensures) in
    let count : c.len.result ≡ length objects = c.len.ensures ∙ sym c.deref-object-items.ensures.len in
    let place : c.object.inside.place ≡ o.0 = ap (λ (x : ℕ × ObjectFile). x.0) c.object.view_is in
    let read : c.first_symbol-first.result ≡ unwrap_or (index_at c.in_ok-firsts.firsts.items c.object.inside.place) 0 =
    c.first_symbol-first.ensures ∙ ap (λ (xs : List (Option ℕ)). unwrap_or (index_at xs c.object.inside.place) 0) c.deref.ensures.value in
    let first = first-there groups objects k c.len.result c.object.inside.place c.first_symbol-first.result o c.in_ok-firsts.firsts.items are c.loop-object-test.true c.object-item.is count place read c.in_ok-firsts.ensures in
    let named : c.num_symbols.result ≡ length (symbols_in groups) + length c.args.files.now.added =
    c.num_symbols.ensures.value ∙ (length-append (map (λ x. x.name) (symbols_in groups)) c.args.files.now.added ∙ ap (λ n. n + length c.args.files.now.added) (length-map (symbols_in groups) (λ x. x.name))) in
    omega (arith, first.1, named, c.num_symbols.ensures.fits)

-- one object more
pub loop-object-preserved : goal.loop-object-preserved
loop-object-preserved g c =
    let groups = c.args.files.now.groups in
    let objects = c.deref-object-items.result.now in
    let k = c.loop-object.object-index in
    let o = c.object-item.result in
    let are : objects ≡ enumerate_from 0 (objects_in groups) =
    c.deref-object-items.ensures.value ∙ (c.in_ok-objects.ensures ∙ ap (λ (gs : List (Group g.row.P.Denot)). enumerate_from 0 (objects_in gs)) c.groups.ensures) in
    let count : c.len.result ≡ length objects = c.len.ensures ∙ sym c.deref-object-items.ensures.len in
    let place : c.object.inside.place ≡ o.0 = ap (λ (x : ℕ × ObjectFile). x.0) c.object.view_is in
    let read : c.first_symbol-first.result ≡ unwrap_or (index_at c.in_ok-firsts.firsts.items c.object.inside.place) 0 =
    c.first_symbol-first.ensures ∙ ap (λ (xs : List (Option ℕ)). unwrap_or (index_at xs c.object.inside.place) 0) c.deref.ensures.value in
    let first = first-there groups objects k c.len.result c.object.inside.place c.first_symbol-first.result o c.in_ok-firsts.firsts.items are c.loop-object-test.true c.object-item.is count place read c.in_ok-firsts.ensures in
    let kept = c.args.kept.now in
    let symbols = symbols_in groups in
    let old = c.loop-object.ids.items in
    let rest = flat_map (signatures_at kept symbols) (drop (k + 1) objects) in
    let next : drop k objects ≡ o ∷ drop (k + 1) objects = drop_more objects k o c.loop-object-test.true ∙ ap (λ (x : ℕ × ObjectFile). x ∷ drop (k + 1) objects) (sym c.object-item.is) in
    let own : signatures_from c.first_symbol-first.result kept o ≡ signatures_at kept symbols o = ap (λ n. signatures_from n kept o) first.0 in
    record {
      ids = ap (λ (ns : List ℕ). ns ++ rest) (c.in_ok-push_object.ensures.ids ∙ ap (λ (ns : List ℕ). old ++ ns) own)
          ∙ (append_assoc old (signatures_at kept symbols o) rest
          ∙ (ap (λ (os : List (ℕ × ObjectFile)). old ++ flat_map (signatures_at kept symbols) os) (sym next) ∙ c.loop-object.invariant.ids));
      below = c.in_ok-push_object.ensures.below (length symbols) first.1 c.loop-object.invariant.below;
    }
