use Rattle.std.specs.Str.{chars}
use Rattle.link_glob.specs.GlobKey.{filed}
use Rattle.link_glob.proofs.Chains.{Walks, after}
use Rattle.link_glob.proofs.glob_index.GlobIndex.last_under.Given as goal

abbrev pub invariant-places : goal.invariant-places
invariant-places g l = Walks (g.G.Globs.globs l.globs) l.fn.key (chars l.name) (filed l.self) l.place

abbrev pub decreases-places : goal.decreases-places
decreases-places g l = after l.place
