use Rattle.link_glob.proofs.Escaping.{keeps, is_exact}
use Rattle.link_glob.proofs.laws.escaping_law.Goals as goal

pub returns-clause-kept : goal.returns-clause-kept
returns-clause-kept c = keeps

pub returns-clause-exact : goal.returns-clause-exact
returns-clause-exact c = is_exact
