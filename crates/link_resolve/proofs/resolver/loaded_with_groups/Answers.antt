use Rattle.std.proofs.Common.{◌≡◌, ◌∙◌, Bool, Err, List, None, ap, subst, sym}
use Rattle.std.specs.List.{filter_map}
use Rattle.link_db_files.specs.Inputs.{objects_in}
use Rattle.link_input_groups.specs.declared.group.Group.{Group}
use Rattle.link_db_texts.specs.Causes.{TellsCause}
use Rattle.link_db.proofs.Causes.{tells-through}
use Rattle.link_rules.proofs.WorldOnce.{one-loaded}
use Rattle.link_rules.specs.Comdat.{loaded_regular}
use Rattle.link_rules.specs.Places.{first_of}
use Rattle.link_rules.specs.Refusals.{group_cause, group_refusal}
use Rattle.link_rules.specs.Selection.{selection_of}
use Rattle.link_resolve.proofs.Loaded.{groups-are}
use Rattle.link_resolve.proofs.resolver.loaded_with_groups.Goals as goal

-- a section of a loaded regular object that is a member twice
pub returns-in_err-groups-clause-cause : goal.returns-in_err-groups-clause-cause
returns-in_err-groups-clause-cause g c = λ demangle w is marks loaded.
    let objects = is.stage.objects ∙ ap (λ (gs : List (Group g.row.P.Denot)). objects_in gs) (sym c.groups.ensures) in
    let same : c.deref.result.now ≡ marks = c.deref.ensures.value ∙ one-loaded w _ marks (c.in_ok-found.ensures.loaded demangle w is) loaded in
    let e = c.in_err-groups.field-0.0 in
    let told : TellsCause {A = Unit {0}} (group_refusal (selection_of w marks)) (Err e) =
    subst (λ (ms : List Bool). TellsCause {A = Unit {0}} (first_of (filter_map group_cause (loaded_regular w ms))) (Err e)) same (c.in_err-groups.ensures.cause w objects) in
    tells-through _ (group_refusal (selection_of w marks)) e c.from_residual-in_err-groups.result c.from_residual-in_err-groups.ensures.0 c.from_residual-in_err-groups.ensures.1 told

-- there is none
pub returns-clause-cause : goal.returns-clause-cause
returns-clause-cause g c = λ demangle w is marks loaded.
    let objects = is.stage.objects ∙ ap (λ (gs : List (Group g.row.P.Denot)). objects_in gs) (sym c.groups.ensures) in
    let same : c.deref.result.now ≡ marks = c.deref.ensures.value ∙ one-loaded w _ marks (c.in_ok-found.ensures.loaded demangle w is) loaded in
    subst (λ (ms : List Bool). first_of (filter_map group_cause (loaded_regular w ms)) ≡ None) same (c.in_ok-groups.ensures.cause w objects)

pub returns-clause-groups : goal.returns-clause-groups
returns-clause-groups g c = λ demangle w is marks loaded.
    let objects = ap (λ (gs : List (Group g.row.P.Denot)). objects_in gs) c.groups.ensures ∙ sym is.stage.objects in
    groups-are w marks c.in_ok-found.found.loaded.items c.deref.result.now (objects_in c.groups.result.now) c.in_ok-groups.groups (c.in_ok-found.ensures.loaded demangle w is) loaded c.deref.ensures.value objects
    c.in_ok-groups.ensures.groups c.in_ok-groups.ensures.indices

pub returns-clause-found : goal.returns-clause-found
returns-clause-found g c = c.in_ok-found.ensures
