use Rattle.std.proofs.Common.{◌≡◌, ◌++◌, length}
use Rattle.link_glob.specs.Grammar.{ranges_of}
use Rattle.link_glob.proofs.compile.ranges_of.Given as goal

abbrev pub invariant-splits : goal.invariant-splits
invariant-splits l = l.ranges.items ++ ranges_of l.left ≡ ranges_of l.content

abbrev pub decreases-splits : goal.decreases-splits
decreases-splits l = length l.left
