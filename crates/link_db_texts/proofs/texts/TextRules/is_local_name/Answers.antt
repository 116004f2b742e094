use Rattle.std.proofs.Common.{sym, ap, subst, ◌∙◌}
use Rattle.std.specs.Prelude.{not}
use Rattle.link_script.specs.declared.script.VersionScript.{VersionScript}
use Rattle.link_db_texts.specs.ReadTexts.{HasNames, ReadTexts, names_in}
use Rattle.link_db_texts.proofs.Answered.{regular_local, rust_local, untaken_local}
use Rattle.link_db_texts.proofs.texts.TextRules.is_local_name.Goals as goal

pub returns-then-not-self : goal.returns-then-not-self
returns-then-not-self g c = λ rules are.
    untaken_local _ _ _ rules are c.args.name.now (sym (ap (λ (r : ReadTexts). r.is_taken) c.self.view_is) ∙ c.if-not-self.true)

pub returns-in-Regular : goal.returns-in-Regular
returns-in-Regular g c = λ rules are.
    regular_local _ _ _ rules are c.in-Regular.script c.args.name.now c.is_local.result
    (sym (ap (λ (r : ReadTexts). r.script) c.self.view_is) ∙ c.in-Regular.is) c.is_local.ensures.of_text

pub returns-in-Rust : goal.returns-in-Rust
returns-in-Rust g c = λ rules are.
    ap not c.contains.ensures
    ∙ rust_local _ _ _ rules are c.in-Rust.field-0 c.self.inside.listed c.args.name.now
    (sym (ap (λ (r : ReadTexts). r.script) c.self.view_is) ∙ c.in-Rust.is)
    (subst (λ (script : VersionScript). HasNames (names_in script) c.self.inside.listed) c.in-Rust.is c.self.invariant)
