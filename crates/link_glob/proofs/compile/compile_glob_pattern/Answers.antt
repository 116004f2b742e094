use Rattle.link_glob.specs.declared.compile.Dialect.TheVariants.{Gnu}
use Rattle.link_glob.proofs.Exact.{exact}
use Rattle.link_glob.proofs.Grammatical.{compiles}
use Rattle.link_glob.proofs.compile.compile_glob_pattern.Goals as goal

pub returns-clause-means : goal.returns-clause-means
returns-clause-means c = compiles Gnu c.args.pattern.now c.compile.result c.compile.ensures

pub returns-clause-exact : goal.returns-clause-exact
returns-clause-exact c = exact Gnu c.args.pattern.now c.compile.result c.compile.ensures
