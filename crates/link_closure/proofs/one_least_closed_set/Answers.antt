use Rattle.link_closure.proofs.Least.{one-least}
use Rattle.link_closure.proofs.one_least_closed_set.Goals as goal

pub returns : goal.returns
returns c = λ root leads count a b first second. one-least _ _ count a b first second
