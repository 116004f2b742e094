use Rattle.std.proofs.Common.{◌-◌, length}
use Rattle.link_glob.specs.GlobKey.{IsIndexOf}
use Rattle.link_glob.proofs.glob_index.GlobIndex.add_all.Given as goal

abbrev pub invariant-globs : goal.invariant-globs
invariant-globs l = IsIndexOf l.globs l.self

abbrev pub decreases-globs : goal.decreases-globs
decreases-globs l = length l.globs - length l.self.earlier.items
