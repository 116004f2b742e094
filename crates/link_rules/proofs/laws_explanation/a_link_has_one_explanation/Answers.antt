use Rattle.link_rules.proofs.AllRoots.{explained-back, one-of-world}
use Rattle.link_rules.proofs.laws_explanation.a_link_has_one_explanation.Goals as goal

pub returns-clause-one : goal.returns-clause-one
returns-clause-one c = λ world a b first second. one-of-world world a b first second

pub returns-clause-back : goal.returns-clause-back
returns-clause-back c = λ world explanation is. explained-back world explanation is
