use Rattle.std.proofs.Common.{◌≡◌, ◌∙◌, Bool, Err, List, None, ap, subst, sym}
use Rattle.std.specs.List.{filter_map}
use Rattle.link_db_files.specs.Inputs.{objects_in}
use Rattle.link_input_groups.specs.declared.group.Group.{Group}
use Rattle.link_db_texts.specs.Causes.{TellsCause}
use Rattle.link_db.proofs.Causes.{tells-through}
use Rattle.link_rules.specs.Comdat.{loaded_regular}
use Rattle.link_rules.specs.Places.{first_of}
use Rattle.link_rules.specs.Refusals.{group_cause, group_refusal}
use Rattle.link_rules.specs.Selection.{selection_of}
use Rattle.link_db_files.specs.GroupFiles.{symbols_in}
use Rattle.link_db_files.specs.HeldFiles.{HeldFiles}
use Rattle.link_db_texts.specs.Holds.{platform_of}
use Rattle.link_db.specs.Database.{Database}
use Rattle.link_db.specs.Seen.{seen}
use Rattle.link_resolve.specs.Known.{IsLoadedSelection}
use Rattle.link_resolve.specs.Resolving.{Resolving}
use Rattle.link_resolve.proofs.Loaded.{chosen-are, pointed-is}
use Rattle.link_resolve.proofs.resolver.Resolver.point_references.Goals as goal

-- a section of a loaded regular object that is a member twice
pub returns-in_err-groups-clause-cause : goal.returns-in_err-groups-clause-cause
returns-in_err-groups-clause-cause g c = λ demangle w marks at.
    let objects = at.stage.objects ∙ ap (λ (gs : List (Group g.row.P.Denot)). objects_in gs) (sym c.groups.ensures) in
    let same : c.loaded.result.now ≡ marks = c.loaded.ensures ∙ (ap (λ (r : Resolving). r.known.marks) c.self.view_is ∙ sym at.marks) in
    let e = c.in_err-groups.field-0.0 in
    let told : TellsCause {A = Unit {0}} (group_refusal (selection_of w marks)) (Err e) =
    subst (λ (ms : List Bool). TellsCause {A = Unit {0}} (first_of (filter_map group_cause (loaded_regular w ms))) (Err e)) same (c.in_err-groups.ensures.cause w objects) in
    tells-through _ (group_refusal (selection_of w marks)) e c.from_residual.result c.from_residual.ensures.0 c.from_residual.ensures.1 told

-- there is none
pub returns-clause-cause : goal.returns-clause-cause
returns-clause-cause g c = λ demangle w marks at.
    let objects = at.stage.objects ∙ ap (λ (gs : List (Group g.row.P.Denot)). objects_in gs) (sym c.groups.ensures) in
    let same : c.loaded.result.now ≡ marks = c.loaded.ensures ∙ (ap (λ (r : Resolving). r.known.marks) c.self.view_is ∙ sym at.marks) in
    subst (λ (ms : List Bool). first_of (filter_map group_cause (loaded_regular w ms)) ≡ None) same (c.in_ok-groups.ensures.cause w objects)

pub returns-clause-groups : goal.returns-clause-groups
returns-clause-groups g c = λ demangle w marks at.
    let objects : objects_in c.groups.result.now ≡ w.objects = ap (λ (gs : List (Group g.row.P.Denot)). objects_in gs) c.groups.ensures ∙ sym at.stage.objects in
    let same : c.loaded.result.now ≡ marks = c.loaded.ensures ∙ (ap (λ (r : Resolving). r.known.marks) c.self.view_is ∙ sym at.marks) in
    chosen-are marks w.objects c.loaded.result.now (objects_in c.groups.result.now) c.in_ok-groups.groups same objects c.in_ok-groups.ensures.groups c.in_ok-groups.ensures.indices

pub returns-clause-selection : goal.returns-clause-selection
returns-clause-selection g c = λ demangle w marks at.
    let objects : objects_in c.groups.result.now ≡ w.objects = ap (λ (gs : List (Group g.row.P.Denot)). objects_in gs) c.groups.ensures ∙ sym at.stage.objects in
    let same : c.loaded.result.now ≡ marks = c.loaded.ensures ∙ (ap (λ (r : Resolving). r.known.marks) c.self.view_is ∙ sym at.marks) in
    let groups = chosen-are marks w.objects c.loaded.result.now (objects_in c.groups.result.now) c.in_ok-groups.groups same objects c.in_ok-groups.ensures.groups c.in_ok-groups.ensures.indices in
    pointed-is (platform_of g.P.Platform) demangle (seen c.args.db.now) (seen c.restore_definitions.new.self) w marks c.loaded-2.result.now _ c.args.self.now c.set_strengths.new.self
    (symbols_in c.files.result.now.groups) c.in_ok-groups.groups c.in_ok-strengths.strengths.items c.self.view_is at groups c.loaded-2.ensures
    (ap (λ (h : HeldFiles g.row.P.Denot). symbols_in h.groups) c.files.ensures) c.in_ok-strengths.ensures c.set_strengths.ensures
    (ap (λ (d : Database g.row.P.Denot). d.mapping) c.restore_definitions.ensures) (ap (λ (d : Database g.row.P.Denot). d.options) c.restore_definitions.ensures)
    (ap (λ (d : Database g.row.P.Denot). d.rules) c.restore_definitions.ensures)

pub returns-clause-table : goal.returns-clause-table
returns-clause-table g c = λ demangle l at.
    ap (λ (d : Database g.row.P.Denot). d.table) c.restore_definitions.ensures
    ∙ c.in_ok-table.ensures.table demangle l (subst (λ (r : Resolving). IsLoadedSelection (platform_of g.P.Platform) demangle (seen c.args.db.now) r.known l) (sym c.self.view_is) at)
