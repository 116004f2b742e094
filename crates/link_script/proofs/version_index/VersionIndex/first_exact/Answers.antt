use Rattle.link_script.specs.Lookup.{seen}
use Rattle.link_script.proofs.VersionIndex.{exact_first}
use Rattle.link_script.proofs.version_index.VersionIndex.first_exact.Goals as goal

pub returns : goal.returns
returns c = λ versions is. rw (c.earlier.ensures, c.number_of.ensures, c.number_of-2.ensures, c.name_of.ensures, c.name_of-2.ensures) (exact_first versions c.args.self.now (seen c.args.name.now) is)
