use Rattle.std.proofs.Common.{◌≡◌, ◌∙◌, ap, sym}
use Rattle.std.specs.List.{filter_map}
use Rattle.link_db_files.specs.Inputs.{objects_in}
use Rattle.link_rules.specs.Places.{each_from, first_of}
use Rattle.link_rules.specs.Refusals.{group_cause}
use Rattle.link_resolve_discarded.specs.Checked.{grouped_among, is_new}
use Rattle.link_resolve_discarded.proofs.Newly.{grouped-told, newly-told, told-through}
use Rattle.link_resolve_discarded.proofs.checking.check_groups.Goals as goal

-- a section of a newly loaded regular object that is a member twice
pub returns-in_err-_selection : goal.returns-in_err-_selection
returns-in_err-_selection g c = record {
  cause = λ w same before fine.
      let objects = objects_in c.args.files.now.groups in
      let marks = c.deref.ensures.value ∙ c.in_ok-marks.ensures in
      let are : c.deref-2.result.now ≡ grouped_among (each_from (is_new c.args.earlier.now) 0 c.args.loaded.now) objects =
      c.deref-2.ensures.value ∙ (c.in_ok-candidates.ensures.value ∙ ap (λ ms. grouped_among ms objects) marks) in
      let told = (newly-told w c.args.earlier.now c.args.loaded.now objects same before fine ∙ grouped-told (each_from (is_new c.args.earlier.now) 0 c.args.loaded.now) objects) ∙ sym (ap (λ os. first_of (filter_map group_cause os)) are) in
      told-through _ _ c.in_err-_selection.field-0.0 c.from_residual-in_err-_selection.result told c.from_residual-in_err-_selection.ensures.0 c.from_residual-in_err-_selection.ensures.1
      c.in_err-_selection.ensures.cause;
}

-- there is none
pub returns : goal.returns
returns g c = record {
  cause = λ w same before fine.
      let objects = objects_in c.args.files.now.groups in
      let marks = c.deref.ensures.value ∙ c.in_ok-marks.ensures in
      let are : c.deref-2.result.now ≡ grouped_among (each_from (is_new c.args.earlier.now) 0 c.args.loaded.now) objects =
      c.deref-2.ensures.value ∙ (c.in_ok-candidates.ensures.value ∙ ap (λ ms. grouped_among ms objects) marks) in
      (newly-told w c.args.earlier.now c.args.loaded.now objects same before fine ∙ grouped-told (each_from (is_new c.args.earlier.now) 0 c.args.loaded.now) objects)
      ∙ (sym (ap (λ os. first_of (filter_map group_cause os)) are) ∙ c.in_ok-_selection.ensures.cause);
}
