use Rattle.std.proofs.Common.{◌≡◌, ◌<◌, ℕ, Contains, Some}
use Rattle.std.specs.Prelude.{slice_get}
use Rattle.link_closure.specs.declared.workload.Item.{Item}
use Rattle.link_closure.specs.declared.workload.Mark.{Mark}
use Rattle.link_closure.specs.Workload.{HasItem}
use Rattle.link_claim.specs.Later.{IsLater}
use Rattle.link_claim_pool.proofs.reading.read_marks.Given as goal

abbrev pub invariant-loop-index : goal.invariant-loop-index
invariant-loop-index g l = record {
  table : l.seat.table ≡ l.initial.seat.table;
  later : IsLater l.initial.seat.view l.seat.view;
  begins : l.seat.view.begins ≡ l.initial.seat.view.begins;
  claims : l.seat.view.claims ≡ l.initial.seat.view.claims;
  known : l.seat.view.known ≡ l.initial.seat.view.known;
  read : (j : ℕ) → j < l.index → (it : Item) → HasItem (g.P.Plan.work l.plan) l.item it → (m : Mark) → slice_get it.marks j ≡ Some m → Contains l.seat.view.marks m;
}
