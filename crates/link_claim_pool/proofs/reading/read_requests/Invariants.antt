use Rattle.std.proofs.Common.{◌≡◌, ◌<◌, ℕ, Contains, Some}
use Rattle.std.specs.Prelude.{slice_get, take}
use Rattle.link_closure.specs.declared.workload.Item.{Item}
use Rattle.link_closure.specs.Workload.{HasItem}
use Rattle.link_claim.specs.declared.view.View.{View}
use Rattle.link_claim.specs.Later.{IsLater}
use Rattle.link_claim_pool.specs.Found.{AreAsked, AreClaimed}
use Rattle.link_claim_pool.proofs.reading.read_requests.Given as goal

abbrev pub invariant-loop-index : goal.invariant-loop-index
invariant-loop-index g l = record {
  table : l.seat.table ≡ l.initial.seat.table;
  later : IsLater l.initial.seat.view l.seat.view;
  begins : l.seat.view.begins ≡ l.initial.seat.view.begins;
  read : (j : ℕ) → j < l.index → (it : Item) → HasItem (g.P.Plan.work l.plan) l.item it → (f : ℕ) → slice_get it.requests j ≡ Some f → Contains l.seat.view.known f;
  claimed : (v : View) → AreClaimed l.initial.claimed.items v l.initial.seat.view → AreClaimed l.claimed.items v l.seat.view;
  asked : (it : Item) → HasItem (g.P.Plan.work l.plan) l.item it → AreAsked (take l.index it.requests) l.initial.seat.view l.seat.view;
  count : l.count ≡ l.index;
}
