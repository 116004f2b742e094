use Rattle.link_claim_pool.specs.Found.{Sweeps}
use Rattle.link_claim_pool.specs.Sweeping.{GoesOn, MaySweep}
use Rattle.link_claim_pool.proofs.sweep.pass.Given as goal

abbrev pub invariant-loop-item : goal.invariant-loop-item
invariant-loop-item g l = record {
  goes_on : GoesOn l.initial.seat l.seat;
  may : MaySweep (g.P.Readable.found_in l.plan) (g.P.Plan.work l.plan) l.words l.seat l.results;
  swept : Sweeps l.more l.initial.results l.initial.seat.view l.results l.seat.view l.item;
}
