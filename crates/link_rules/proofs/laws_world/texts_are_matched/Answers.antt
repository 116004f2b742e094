use Rattle.link_rules.proofs.Matched.{best, one-best, version-by, listed-by}
use Rattle.link_rules.proofs.laws_world.texts_are_matched.Goals as goal

pub returns-clause-best : goal.returns-clause-best
returns-clause-best c = best

pub returns-clause-one_best : goal.returns-clause-one_best
returns-clause-one_best c = one-best

pub returns-clause-version : goal.returns-clause-version
returns-clause-version c = version-by

pub returns-clause-listed : goal.returns-clause-listed
returns-clause-listed c = listed-by
