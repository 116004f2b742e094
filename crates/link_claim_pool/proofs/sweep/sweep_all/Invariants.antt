use Rattle.std.proofs.Common.{◌≡◌, ◌+◌, false, cond, length}
use Rattle.link_claim_pool.specs.Found.{AreNotDue, missing}
use Rattle.link_claim_pool.specs.Sweeping.{GoesOn, MaySweep}
use Rattle.link_claim_pool.proofs.sweep.sweep_all.Given as goal

abbrev pub invariant-loop-more : goal.invariant-loop-more
invariant-loop-more g l = record {
  goes_on : GoesOn l.initial.seat l.seat;
  may : MaySweep (g.P.Readable.found_in l.plan) (g.P.Plan.work l.plan) l.words l.seat l.results;
  left : l.more ≡ false → AreNotDue l.results l.seat.view (length (g.P.Plan.work l.plan).items);
}

abbrev pub decreases-loop-more : goal.decreases-loop-more
decreases-loop-more g l = missing l.results + (cond l.more 1 0)
