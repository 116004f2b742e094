use Rattle.std.proofs.Common.{◌≡◌, ◌+◌}
use Rattle.link_tests_desk.proofs.work.split_for_all.Given as goal

abbrev pub invariant-loop-thread : goal.invariant-loop-thread
invariant-loop-thread g l = l.first.parts + l.thread ≡ 9
