use Rattle.std.proofs.Common.{◌≡◌, ◌<◌, ℕ, Contains, Some}
use Rattle.std.specs.Prelude.{slice_get}
use Rattle.link_closure.specs.declared.workload.Mark.{Mark}
use Rattle.link_claim.specs.Later.{IsLater}
use Rattle.link_claim_pool.proofs.roots.mark_roots.Given as goal

abbrev pub invariant-loop-index : goal.invariant-loop-index
invariant-loop-index g l = record {
  table : l.seat.table ≡ l.initial.seat.table;
  later : IsLater l.initial.seat.view l.seat.view;
  listed : (j : ℕ) → j < l.index → (m : Mark) → slice_get (g.P.Plan.work l.plan).root_marks j ≡ Some m → Contains l.seat.view.marks m;
}
