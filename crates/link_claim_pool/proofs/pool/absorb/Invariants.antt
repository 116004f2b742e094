use Rattle.std.proofs.Common.{ℕ, vec_len}
use Rattle.link_claim_pool.specs.Found.{AreFound}
use Rattle.link_claim_pool.specs.Jobs.{AllFound, IsInHand}
use Rattle.link_claim_pool.proofs.pool.absorb.Given as goal

abbrev pub invariant-loop-finding : goal.invariant-loop-finding
invariant-loop-finding g l = record {
  found : AreFound (g.P.Readable.found_in l.plan) l.seat.view l.results;
  rest : AllFound (g.P.Readable.found_in l.plan) l.seat.view l.findings.items;
  in_hand : (i : ℕ) → IsInHand l.initial.results l.initial.findings.items i → IsInHand l.results l.findings.items i;
}

abbrev pub decreases-loop-finding : goal.decreases-loop-finding
decreases-loop-finding g l = vec_len l.findings
