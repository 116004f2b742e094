use Rattle.std.proofs.Common.{refl}
use Rattle.link_glob.specs.Reading.{tokens_of}
use Rattle.link_glob.proofs.laws.examples_law.Goals as goal

pub returns-clause-kinds : goal.returns-clause-kinds
returns-clause-kinds c = (refl, refl, refl, refl)

pub returns-clause-unescaping : goal.returns-clause-unescaping
returns-clause-unescaping c = (refl, refl)

pub returns-clause-reading : goal.returns-clause-reading
unfolding tokens_of
returns-clause-reading c = (refl, refl, refl, refl, refl, refl, refl)

pub returns-clause-matching : goal.returns-clause-matching
returns-clause-matching c = (refl, refl, refl)
