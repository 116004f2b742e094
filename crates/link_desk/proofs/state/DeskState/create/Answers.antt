use Rattle.std.proofs.Common.{◌≡◌, Some}
use Rattle.link_rules.specs.Refusals.{text_refusal}
use Rattle.link_desk.proofs.Refusing.{script_told}
use Rattle.link_desk.proofs.state.DeskState.create.Goals as goal

pub returns-in-Err-clause-refused : goal.returns-in-Err-clause-refused
returns-in-Err-clause-refused g c = λ w given. script_told (λ cause. text_refusal w ≡ Some cause) c.in-Err.error c.refused.result c.refused.ensures (c.in-Err.ensures.refused w given)
