use Rattle.std.proofs.Common.{◌≡◌, ◌<◌, ◌∙◌, ℕ, All, List, Option, length, ap, sym, subst}
use Rattle.std.specs.Prelude.{IfSome}
use Rattle.std.specs.List.{flat_map}
use Rattle.std.proofs.lemmas.List.{length-map}
use Rattle.link_db_files.specs.Inputs.{objects_in}
use Rattle.link_input.specs.ObjectFile.{ObjectFile}
use Rattle.link_rules.specs.Comdat.{groups_of}
use Rattle.link_resolve_comdat.specs.Selected.{SelectedGroups, object_groups, selected}
use Rattle.link_resolve_discarded.specs.Indexed.{index_at}
use Rattle.link_resolve_discarded.specs.Regular.{regular_among}
use Rattle.link_resolve_discarded.proofs.Column.{index-within, regular-within}
use Rattle.link_resolve_discarded.proofs.loaded_groups.LoadedGroups.select.Goals as goal

-- loaded objects have places that have marks
pub index_column-requires-clause-below : goal.index_column-requires-clause-below
index_column-requires-clause-below g c =
    let marks = c.args.loaded.now in
    let objects = objects_in c.args.groups.now in
    let are : c.deref-2.result.now ≡ regular_among marks objects = c.deref-2.ensures.value ∙ c.in_ok-candidates.ensures.value in
    subst (λ (xs : List (ℕ × ObjectFile)). All (λ o. o.0 < length marks) xs) (sym are) (regular-within marks 0 objects)

-- an index is one of the objects that were selected
pub invariant_of-result : goal.invariant_of-result
invariant_of-result g c = λ f.
    let selection = c.in_ok-selection.selection in
    let objects = c.deref-2.result.now in
    let same : c.deref.result.now ≡ objects = c.deref.ensures.value ∙ sym c.deref-2.ensures.value in
    let made : length selection.objects ≡ length (selected objects).objects =
    ap (λ (s : SelectedGroups). length s.objects) (c.in_ok-selection.ensures.ok ∙ ap (λ (xs : List (ℕ × ObjectFile)). selected xs) same) in
    let long : length selection.objects ≡ length objects = made ∙ length-map objects (object_groups (flat_map groups_of objects)) in
    let column = c.in_ok-indices.indices.items in
    subst (λ n. IfSome (index_at column f) (λ index. index < n)) (sym long)
    (subst (λ (r : Option ℕ). IfSome r (λ index. index < length objects)) (sym (c.in_ok-indices.ensures f)) (index-within objects f))
