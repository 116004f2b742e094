-- What a sweep begins with, and what it leaves.
use Rattle.std.specs.Prelude.{◌≡◌, ℕ, List, length, Option}
use Rattle.atomic_table.specs.Seated.{TableId}
use Rattle.link_closure.specs.declared.workload.Workload.{Workload}
use Rattle.link_claim.specs.Later.{IsLater}
use Rattle.link_claim.specs.Seats.{Place}
use Rattle.link_claim_pool.specs.Found.{AreFound}

-- the seat is of these words and of this work; there is room for a result of each item, and each result that is there was found so
pub record MaySweep {T : Type 0} (found_in : ℕ → T → Type 0) (w : Workload) (words : TableId) (seat : Place) (results : List (Option T)) : Type 0 where
  pub table : seat.table ≡ words
  pub work : seat.view.work ≡ w
  pub wide : length results ≡ length w.items
  pub found : AreFound found_in seat.view results

-- the seat is of the same words, and knows and lists all that it did
pub record GoesOn (before after : Place) : Type 0 where
  pub table : after.table ≡ before.table
  pub later : IsLater before.view after.view
