use Rattle.std.proofs.Common.{◌≤◌}
use Rattle.link_claim_pool.specs.Found.{missing}
use Rattle.link_claim_pool.specs.Sweeping.{GoesOn, MaySweep}
use Rattle.link_claim_pool.proofs.sweep.visit_file.Given as goal

abbrev pub invariant-loop-item : goal.invariant-loop-item
invariant-loop-item g l = record {
  goes_on : GoesOn l.initial.seat l.seat;
  may : MaySweep (g.P.Readable.found_in l.plan) (g.P.Plan.work l.plan) l.words l.seat l.results;
  fewer : missing l.results ≤ missing l.initial.results;
}
