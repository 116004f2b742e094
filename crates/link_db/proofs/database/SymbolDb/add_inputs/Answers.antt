use Rattle.std.proofs.Common.{◌≡◌, ◌++◌, ◌==◌, [], ◌∷◌, ◌∙◌, Bool, List, Option, None, Err, sym, ap, subst, arith, length}
use Rattle.std.specs.Prelude.{not, IsTrue}
use Rattle.std.specs.List.{flat_map}
use Rattle.std.specs.Option.{option_or}
use Rattle.link_input_groups.specs.declared.group.Group.{Group}
use Rattle.link_input.specs.declared.world.ProcessedLinkerScript.{ProcessedLinkerScript}
use Rattle.link_input.specs.InputFiles.{Batch, batch_of}
use Rattle.link_input.specs.Limits.{counts_of, first_excess}
use Rattle.link_db_files.specs.Inputs.{scripts_in}
use Rattle.link_db_files.specs.HeldFiles.{HeldFiles}
use Rattle.link_rules.specs.declared.refusal.LinkError.{LinkError}
use Rattle.link_rules.specs.Places.{is_empty}
use Rattle.link_rules.specs.Refusals.{linker_script_cause, too_many}
use Rattle.link_db_texts.specs.Causes.{TellsCause}
use Rattle.link_db_texts.specs.Holds.{HoldsTexts, platform_of}
use Rattle.link_db_texts.specs.ReadTexts.{ReadTexts, with_taken}
use Rattle.link_db.specs.Seen.{seen}
use Rattle.link_db.proofs.Causes.{empty-counted, few-scripts, neither, refused-not-ok, same-cause, tells-first, tells-other, tells-through}
use Rattle.link_db.proofs.database.SymbolDb.add_inputs.Goals as goal

pub read_scripts-requires : goal.read_scripts-requires
read_scripts-requires g c =
    let old = seen c.args.self.now in
    let few = few-scripts old.options c.requires.held.0 old.mapping.files.groups c.requires.held.1 in
    let same = c.num_scripts-first.ensures ∙ ap (λ (f : HeldFiles g.row.P.Denot). length (scripts_in f.groups)) c.files.ensures in
    omega (arith, few, same, c.as_slice-scripts.type_inv.1)

pub returns-in_err-script-clause-cause : goal.returns-in_err-script-clause-cause
returns-in_err-script-clause-cause g c = λ batches held.
    let old = seen c.args.self.now in
    let other = too_many (first_excess (counts_of old.options (batches ++ batch_of c.args.inputs ∷ []))) in
    let same = same-cause old.rules.profile old.options batches old.mapping.files.groups c.groups.result.now c.files.result.now.groups c.is_empty-is_late.result c.num_scripts-first.result c.as_slice-scripts.result.now c.args.inputs.scripts old.rules.is_taken
    held c.groups.ensures c.is_empty-is_late.ensures (ap (λ (f : HeldFiles g.row.P.Denot). f.groups) c.files.ensures) c.num_scripts-first.ensures c.as_slice-scripts.ensures in
    let first = linker_script_cause old.rules.profile (not (is_empty batches)) old.rules.is_taken (length (flat_map (λ (b : Batch). b.scripts) batches)) c.args.inputs.scripts in
    let e = c.in_err-script.field-0.0 in
    let told : TellsCause {A = Unit {0}} first (Err e) = subst (λ (o : Option LinkError). TellsCause {A = Unit {0}} o (Err e)) same c.in_err-script.ensures.cause in
    tells-through _ (option_or first (option_or other None)) e c.from_residual.result c.from_residual.ensures.0 c.from_residual.ensures.1
    (tells-first (Unit {0}) (Unit {0}) first (option_or other None) e told)

pub returns-in_err-groups-clause-cause : goal.returns-in_err-groups-clause-cause
returns-in_err-groups-clause-cause g c = λ batches held.
    let old = seen c.args.self.now in
    let other = too_many (first_excess (counts_of old.options (batches ++ batch_of c.args.inputs ∷ []))) in
    let same = same-cause old.rules.profile old.options batches old.mapping.files.groups c.groups.result.now c.files.result.now.groups c.is_empty-is_late.result c.num_scripts-first.result c.as_slice-scripts.result.now c.args.inputs.scripts old.rules.is_taken
    held c.groups.ensures c.is_empty-is_late.ensures (ap (λ (f : HeldFiles g.row.P.Denot). f.groups) c.files.ensures) c.num_scripts-first.ensures c.as_slice-scripts.ensures in
    let first = linker_script_cause old.rules.profile (not (is_empty batches)) old.rules.is_taken (length (flat_map (λ (b : Batch). b.scripts) batches)) c.args.inputs.scripts in
    let e = c.in_err-groups.field-0.0 in
    let told : TellsCause {A = Unit {0}} other (Err e) = c.in_err-groups.ensures.cause batches held in
    tells-through _ (option_or first (option_or other None)) e c.from_residual-in_err-groups.result c.from_residual-in_err-groups.ensures.0 c.from_residual-in_err-groups.ensures.1
    (tells-other (Unit {0}) (Unit {0}) first other e (sym same ∙ c.in_ok-script.ensures.cause) told)

pub returns-clause-texts : goal.returns-clause-texts
returns-clause-texts g c = λ options texts before holds.
    let old = seen c.args.self.now in
    let held = c.in_ok-script.ensures.holds options texts before holds in
    subst (λ (r : ReadTexts). HoldsTexts (platform_of g.P.Platform) options texts (before ++ c.args.inputs.scripts) r) (sym c.in_ok-add_with_script.ensures.rules)
    (subst (λ (l : List ProcessedLinkerScript). HoldsTexts (platform_of g.P.Platform) options texts (before ++ l) (with_taken c.in_ok-script.script old.rules)) c.as_slice-scripts.ensures held)

pub returns-clause-late : goal.returns-clause-late
returns-clause-late g c = λ late.
    let old = seen c.args.self.now in
    let same : not c.is_empty-is_late.result ≡ not (is_empty old.mapping.files.groups) =
    ap not c.is_empty-is_late.ensures ∙ ap (λ (gs : List (Group g.row.P.Denot)). not (length gs == 0)) c.groups.ensures ∙ empty-counted old.mapping.files.groups in
    let some : IsTrue (not c.is_empty-is_late.result) = subst (λ (b : Bool). IsTrue b) (sym same) late in
    c.in_ok-add_with_script.ensures.rules ∙ ap (λ o. with_taken o old.rules) (c.in_ok-script.ensures.late some)

pub returns-clause-cause : goal.returns-clause-cause
returns-clause-cause g c = λ batches held.
    let old = seen c.args.self.now in
    let other = too_many (first_excess (counts_of old.options (batches ++ batch_of c.args.inputs ∷ []))) in
    let same = same-cause old.rules.profile old.options batches old.mapping.files.groups c.groups.result.now c.files.result.now.groups c.is_empty-is_late.result c.num_scripts-first.result c.as_slice-scripts.result.now c.args.inputs.scripts old.rules.is_taken
    held c.groups.ensures c.is_empty-is_late.ensures (ap (λ (f : HeldFiles g.row.P.Denot). f.groups) c.files.ensures) c.num_scripts-first.ensures c.as_slice-scripts.ensures in
    neither (linker_script_cause old.rules.profile (not (is_empty batches)) old.rules.is_taken (length (flat_map (λ (b : Batch). b.scripts) batches)) c.args.inputs.scripts) other
    (sym same ∙ c.in_ok-script.ensures.cause) (c.in_ok-groups.ensures.cause batches held)

-- a refused call, of which the clause says nothing
pub returns-in_err-groups-clause-whole : goal.returns-in_err-groups-clause-whole
returns-in_err-groups-clause-whole g c = refused-not-ok _ _ c.from_residual-in_err-groups.result c.from_residual-in_err-groups.ensures.0
