use Rattle.std.proofs.Common.{sym, ap, subst}
use Rattle.link_script.specs.Script.{IsScriptOf}
use Rattle.link_db_texts.specs.ReadTexts.{ReadTexts}
use Rattle.link_db_texts.proofs.Answered.{version_is}
use Rattle.link_db_texts.proofs.texts.TextRules.version_of.Goals as goal

pub returns : goal.returns
returns g c = λ rules are.
    version_is _ _ _ rules are _ _ _ (λ raw is. c.version_for_symbol.ensures.of_text raw
    (subst (IsScriptOf raw) (sym (ap (λ (r : ReadTexts). r.script) c.self.view_is)) is))
