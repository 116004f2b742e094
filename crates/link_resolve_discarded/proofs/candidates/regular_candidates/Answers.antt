use Rattle.std.proofs.Common.{rules, ◌∙◌, ◌&&◌, ℕ, List, Bool, not, map, ap, sym, subst}
use Rattle.std.specs.Prelude.{filter}
use Rattle.std.specs.List.Sorted.{IsStrictlyIncreasing}
use Rattle.std.proofs.lemmas.Fn.{filter_same}
use Rattle.link_closure.specs.Closure.{is_marked}
use Rattle.link_db_files.specs.Inputs.{objects_in}
use Rattle.link_input.specs.ObjectFile.{ObjectFile}
use Rattle.link_resolve_comdat.proofs.Rising.{rising-filter, one-by-one}
use Rattle.link_resolve_discarded.specs.Regular.{regular_among}
use Rattle.link_resolve_discarded.proofs.candidates.regular_candidates.Goals as goal

-- what stays are the loaded regular objects
pub returns-clause-value : goal.returns-clause-value
returns-clause-value g c =
    let is_regular : ℕ × ObjectFile → Bool = λ o. is_marked c.args.loaded.now o.0 && not o.1.object.is_dynamic in
    filter_same _ is_regular _ (λ x b f' k. search rules) _ _ c.retain.ensures.filtered ∙ ap (filter is_regular) c.in_ok-candidates.ensures

pub returns-clause-rise : goal.returns-clause-rise
returns-clause-rise g c =
    let marks = c.args.loaded.now in
    let objects = objects_in c.args.groups.now in
    subst (λ (xs : List (ℕ × ObjectFile)). IsStrictlyIncreasing (map (λ o. o.0) xs)) (sym (returns-clause-value g c))
    (one-by-one (regular_among marks objects) (rising-filter (λ o. is_marked marks o.0 && not o.1.object.is_dynamic) 0 objects))
