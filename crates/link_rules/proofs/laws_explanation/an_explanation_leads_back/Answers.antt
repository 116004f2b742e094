use Rattle.link_rules.proofs.Explaining.{one-explanation, level-of-loaded, leads-back}
use Rattle.link_rules.proofs.laws_explanation.an_explanation_leads_back.Goals as goal

pub returns-clause-one : goal.returns-clause-one
returns-clause-one c = λ l roots a b p q. one-explanation l roots a b p q

pub returns-clause-level : goal.returns-clause-level
returns-clause-level c = λ l roots f least marked. level-of-loaded l roots least f marked

pub returns-clause-back : goal.returns-clause-back
returns-clause-back c = λ l roots reasons n f least are level. leads-back l roots least reasons are n f level
