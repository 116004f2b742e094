-- The results of all items.
use Rattle.std.specs.Prelude.{◌≡◌, ℕ, MatchBool, List, length, Option, None, Some, slice_get}
use Rattle.link_closure.specs.Closure.{is_marked}
use Rattle.link_closure.specs.declared.workload.Item.{Item}
use Rattle.link_closure.specs.declared.workload.Workload.{Workload}
use Rattle.link_closure.specs.Workload.{HasItem}
use Rattle.link_claim.specs.Seats.{Ending, claimed_in}

-- for each item of a claimed file something that is right for it, and nothing for any other
abbrev pub AreResultsOf : {T : Type 0} → Workload → (ℕ → T → Type 0) → Ending → List (Option T) → Type 0
AreResultsOf w found e results =
    (length results ≡ length w.items)
    × ((i : ℕ) (it : Item) → HasItem w i it → MatchBool (is_marked (claimed_in e) it.file)
    ((x : _) × (slice_get results i ≡ Some (Some x)) × found i x)
    (slice_get results i ≡ Some None))
