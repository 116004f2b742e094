use Rattle.link_glob.proofs.Chains.{pushed}
use Rattle.link_glob.proofs.glob_list.GlobList.push.Goals as goal

pub invariant_of-self-2 : goal.invariant_of-self-2
invariant_of-self-2 c = let items = rw c.in_ok-push.was at c.push.ensures.items in rw items (pushed c.self.inside.globs.items c.args.glob c.self.inside.index c.self.invariant)
