use Rattle.std.proofs.Common.{◌≡◌, length}
use Rattle.link_tests_claim.proofs.pool.roots_of.Given as goal

abbrev pub invariant-loop-file : goal.invariant-loop-file
invariant-loop-file l = length l.roots.items ≡ l.file
