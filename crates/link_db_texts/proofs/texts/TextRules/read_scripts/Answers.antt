use Rattle.std.proofs.Common.{◌≡◌, ◌++◌, true, false, Option, Some, sym, subst}
use Rattle.link_script.specs.declared.script.VersionScript.{VersionScript}
use Rattle.link_rules.specs.Places.{first_of}
use Rattle.link_db_texts.specs.Holds.{HoldsTexts, IsScriptIf, platform_of}
use Rattle.link_db_texts.specs.ReadTexts.{ReadTexts, with_taken}
use Rattle.link_db_texts.proofs.Taken.{held_batch, held_without, no_text, not_late, texts_in}
use Rattle.link_db_texts.proofs.texts.TextRules.read_scripts.Goals as goal

pub returns-in-None-clause-holds : goal.returns-in-None-clause-holds
returns-in-None-clause-holds g c = λ options texts before holds.
    held_without _ options texts before c.args.scripts.now c.args.self.now
    (no_text c.self.inside.profile c.args.scripts.now (subst (λ (o : Option VersionScript). IsScriptIf c.self.inside.profile (first_of (texts_in c.args.scripts.now)) o) c.in-None.is c.in_ok-script.ensures.script))
    holds

pub returns-in_ok-listed-in-Some-clause-holds : goal.returns-in_ok-listed-in-Some-clause-holds
returns-in_ok-listed-in-Some-clause-holds g c = λ options texts before holds.
    subst (λ (r : ReadTexts). HoldsTexts (platform_of g.P.Platform) options texts (before ++ c.args.scripts.now) (with_taken (Some (record { script = c.in-Some.script; is_taken = true })) r)) c.self.view_is
    (held_batch c.self.inside.profile c.args.scripts.now c.args.is_late c.self.inside.is_taken c.args.first c.in_ok-script.ensures.cause
    (platform_of g.P.Platform) options texts before
    c.self.inside.version_script c.in-Some.script c.self.inside.export_list
    (subst (λ (o : Option VersionScript). IsScriptIf c.self.inside.profile (first_of (texts_in c.args.scripts.now)) o) c.in-Some.is c.in_ok-script.ensures.script)
    (subst (HoldsTexts _ options texts before) (sym c.self.view_is) holds))

pub returns-in_ok-listed-in-Some-clause-late : goal.returns-in_ok-listed-in-Some-clause-late
returns-in_ok-listed-in-Some-clause-late g c = λ late.
    let early : c.args.is_late ≡ false =
    not_late c.self.inside.profile c.args.scripts.now c.args.is_late c.self.inside.is_taken c.args.first c.in_ok-script.ensures.cause c.in-Some.script
    (subst (λ (o : Option VersionScript). IsScriptIf c.self.inside.profile (first_of (texts_in c.args.scripts.now)) o) c.in-Some.is c.in_ok-script.ensures.script) in
    absurd (let both = sym late in cc)
