use Rattle.std.proofs.Common.{◌≡◌, ◌-◌, ◌+◌, ◌*◌}
use Rattle.link_claim_pool.specs.Jobs.{AllFound, AreKept}
use Rattle.link_claim_pool.proofs.worker.work.Given as goal

abbrev pub invariant-loop-idle : goal.invariant-loop-idle
invariant-loop-idle g l = record {
  table : l.seat.table ≡ l.initial.seat.table;
  work : l.seat.view.work ≡ l.initial.seat.view.work;
  found : AllFound (g.P.Readable.found_in l.plan) l.seat.view l.findings.items;
  kept : AreKept l.seat.view l.findings.items;
}

abbrev pub decreases-loop-idle : goal.decreases-loop-idle
decreases-loop-idle g l = (l.items - l.taken) * 65 + (64 - l.idle)
