use Rattle.std.proofs.Common.{sym, ap, ◌∙◌}
use Rattle.link_db_texts.specs.ReadTexts.{ReadTexts}
use Rattle.link_db_texts.proofs.Answered.{exported_listed}
use Rattle.link_db_texts.proofs.texts.TextRules.is_exported.Goals as goal

pub returns-in-Some : goal.returns-in-Some
returns-in-Some g c = λ rules are.
    exported_listed _ _ _ rules are c.in-Some.list c.args.name.now c.contains.result
    (sym (ap (λ (r : ReadTexts). r.list) c.self.view_is) ∙ c.in-Some.is) c.contains.ensures
