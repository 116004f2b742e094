use Rattle.std.proofs.Common.{◌≡◌, length}
use Rattle.link_tests_claim.proofs.marking.four_roots.Given as goal

abbrev pub invariant-loop-number : goal.invariant-loop-number
invariant-loop-number l = length l.roots.items ≡ l.number
