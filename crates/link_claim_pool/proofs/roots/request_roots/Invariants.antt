use Rattle.std.proofs.Common.{◌≡◌, ◌<◌, ℕ, Contains, Some, vec_len}
use Rattle.std.specs.Prelude.{slice_get}
use Rattle.link_claim.specs.Later.{IsLater}
use Rattle.link_claim_pool.proofs.roots.request_roots.Given as goal

abbrev pub invariant-loop-index : goal.invariant-loop-index
invariant-loop-index g l = record {
  table : l.seat.table ≡ l.initial.seat.table;
  workers : vec_len l.dealer.all ≡ vec_len l.initial.dealer.all;
  later : IsLater l.initial.seat.view l.seat.view;
  known : (j : ℕ) → j < l.index → (f : ℕ) → slice_get (g.P.Plan.work l.plan).roots j ≡ Some f → Contains l.seat.view.known f;
}
