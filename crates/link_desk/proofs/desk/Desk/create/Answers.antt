use Rattle.std.proofs.Common.{rules}
use Rattle.link_desk.proofs.desk.Desk.create.Goals as goal

pub returns-in_err-state-clause-refused : goal.returns-in_err-state-clause-refused
returns-in_err-state-clause-refused g c = λ w given. let told = c.in_err-state.ensures.refused w given in search (rules, told)
