use Rattle.std.proofs.Common.{◌≡◌, ◌+◌, All, vec_len}
use Rattle.link_claim_pool.specs.Jobs.{IsReady}
use Rattle.link_claim_pool.proofs.pool.jobs_of.Given as goal

abbrev pub invariant-loop-hints : goal.invariant-loop-hints
invariant-loop-hints g l = record {
  same : l.seat ≡ l.initial.seat;
  count : vec_len l.jobs + vec_len l.all ≡ vec_len l.initial.all;
  ready : All (IsReady (g.P.Plan.work l.plan) l.words) l.jobs.items;
}

abbrev pub decreases-loop-hints : goal.decreases-loop-hints
decreases-loop-hints g l = vec_len l.all
