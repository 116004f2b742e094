use Rattle.std.proofs.Common.{rules, ◌≡◌, ◌∙◌, ◌&&◌, ℕ, List, Bool, false, not, map, ap, sym, subst}
use Rattle.std.specs.Prelude.{filter}
use Rattle.std.specs.List.{enumerate_from, list_any}
use Rattle.std.specs.List.Sorted.{IsStrictlyIncreasing}
use Rattle.std.proofs.lemmas.Fn.{filter_same}
use Rattle.link_closure.specs.Closure.{is_marked}
use Rattle.link_db_files.specs.Inputs.{objects_in}
use Rattle.link_input_groups.specs.declared.group.Group.{Group}
use Rattle.link_input.specs.ObjectFile.{ObjectFile}
use Rattle.link_resolve_comdat.proofs.Rising.{rising-filter, one-by-one}
use Rattle.link_resolve_discarded.specs.Checked.{grouped_among, has_groups}
use Rattle.link_resolve_discarded.proofs.Marked.{marked-grouped, none-grouped}
use Rattle.link_resolve_discarded.proofs.candidates.grouped_candidates.Goals as goal

-- no mark is set
pub returns-then-not-is_any_set-clause-value : goal.returns-then-not-is_any_set-clause-value
returns-then-not-is_any_set-clause-value g c =
    let marks = c.in_ok-marks.marks.items in
    let none : list_any (λ mark. mark) marks ≡ false =
    ap (λ (ms : List Bool). list_any (λ mark. mark) ms) (sym c.deref.ensures.value) ∙ (sym c.is_any_set.ensures ∙ c.if-not-is_any_set.true) in
    c.new.ensures.items ∙ none-grouped marks c.args.loaded.now (objects_in c.args.files.now.groups) c.in_ok-marks.ensures none

-- what stays are the marked objects
pub returns-clause-value : goal.returns-clause-value
returns-clause-value g c =
    let objects = objects_in c.args.files.now.groups in
    let marks = c.in_ok-marks.marks.items in
    let has_mark : ℕ × ObjectFile → Bool = λ o. is_marked marks o.0 in
    let placed = c.in_ok-candidates.ensures ∙ ap (λ (gs : List (Group g.row.P.Denot)). enumerate_from 0 (objects_in gs)) c.groups.ensures in
    filter_same _ has_mark _ (λ x b f' k. search rules) _ _ c.retain.ensures.filtered
    ∙ (ap (filter has_mark) placed ∙ marked-grouped marks c.args.loaded.now objects c.in_ok-marks.ensures)

pub returns-clause-rise : goal.returns-clause-rise
returns-clause-rise g c =
    let marks = c.args.loaded.now in
    let objects = objects_in c.args.files.now.groups in
    subst (λ (xs : List (ℕ × ObjectFile)). IsStrictlyIncreasing (map (λ o. o.0) xs)) (sym (returns-clause-value g c))
    (one-by-one (grouped_among marks objects) (rising-filter (λ o. (is_marked marks o.0 && not o.1.object.is_dynamic) && has_groups o) 0 objects))
