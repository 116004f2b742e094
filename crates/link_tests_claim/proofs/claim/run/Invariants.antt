use Rattle.std.proofs.Common.{◌≡◌}
use Rattle.link_claim.specs.Examples.{eight_files}
use Rattle.link_tests_claim.proofs.claim.run.Given as goal

abbrev pub invariant-loop : goal.invariant-loop
invariant-loop l = record { table : l.seat.table ≡ l.words; work : l.seat.view.work ≡ eight_files }
