use Rattle.link_glob.proofs.Chains.{grown}
use Rattle.link_glob.proofs.glob_index.GlobIndex.add.Goals as goal

pub returns : goal.returns
returns c = λ globs is. grown globs c.args.self.now c.file.new.self c.args.glob.now c.file.ensures.kept c.in_ok-file.ensures.added is
