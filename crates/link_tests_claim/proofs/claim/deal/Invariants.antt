use Rattle.std.proofs.Common.{◌≡◌, All}
use Rattle.link_claim.specs.Examples.{eight_files}
use Rattle.link_tests_claim.proofs.claim.deal.Given as goal

abbrev pub invariant-loop-random : goal.invariant-loop-random
invariant-loop-random l = record {
  same : l.seat ≡ l.initial.seat;
  jobs : All (λ j. (j.seat.table ≡ l.words) × (j.seat.view.work ≡ eight_files)) l.jobs.items;
}
