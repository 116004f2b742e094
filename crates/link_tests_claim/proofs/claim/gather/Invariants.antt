use Rattle.std.proofs.Common.{◌≡◌, All, vec_len}
use Rattle.link_claim.specs.Examples.{eight_files}
use Rattle.link_tests_claim.proofs.claim.gather.Given as goal

abbrev pub invariant-loop-job : goal.invariant-loop-job
invariant-loop-job l = record {
  table : l.seat.table ≡ l.initial.seat.table;
  work : l.seat.view.work ≡ eight_files;
  jobs : All (λ j. j.seat.table ≡ l.words) l.jobs.items;
}

abbrev pub decreases-loop-job : goal.decreases-loop-job
decreases-loop-job l = vec_len l.jobs
