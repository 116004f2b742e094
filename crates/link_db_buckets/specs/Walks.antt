-- Walks through the heads of a bucket, by the bits of their hash numbers.
use Rattle.std.specs.Prelude.{◌≡◌, ◌<◌, ◌≤◌, ◌+◌, ◌-◌, ◌/◌, ◌%◌, ◌^◌, ◌==◌, ℕ, zero, suc, Bool, IsTrue, List, [], ◌∷◌, Some, bit_and, if◌then◌else◌, length, slice_get, slice_index}
use Rattle.std.specs.List.{list_any}
use Rattle.std.specs.Option.{option_map_or}
use Rattle.link_db_buckets.specs.declared.places.Places.{Places}
use Rattle.link_db_buckets.specs.declared.walk.Fork.{Fork}
use Rattle.link_db_buckets.specs.Slots.{may_hold, slot_of}

-- whether a number's walk turns right at a depth: the bits of the number, from the highest down and round again
abbrev pub bit_at : ℕ → ℕ → Bool
bit_at number depth = bit_and (number / 2 ^ (63 - depth % 64)) 1 == 1

-- 1 + the place of what hangs on a side of a head, or 0
abbrev pub side_of : Bool → Fork → ℕ
side_of right fork = if right then fork.right else fork.left

-- 1 + the place of what hangs on a side of the head at a place, or 0
abbrev pub link_at : List Fork → ℕ → Bool → ℕ
link_at forks place right = option_map_or (side_of right) (slice_get forks place) 0

-- the heads that a number's walk passes from a link at a depth on, at most so many, each with whether the walk turns right there
abbrev pub walk_from : ℕ → List Fork → ℕ → ℕ → ℕ → List (ℕ × Bool)
walk_from zero forks number depth link = []
walk_from (suc most) forks number depth zero = []
walk_from (suc most) forks number depth (suc place) = (place, bit_at number depth) ∷ walk_from most forks number (depth + 1) (link_at forks place (bit_at number depth))

-- the heads that a number's walk passes, from its slot on
abbrev pub walk_of : List ℕ → List Fork → ℕ → List (ℕ × Bool)
walk_of slots forks number = walk_from (length forks) forks number 0 (slice_index slots (slot_of (length slots) number))

-- a walk passes the head at the place
abbrev pub passes : List (ℕ × Bool) → ℕ → Bool
passes walk place = list_any (λ step. step.0 == place) walk

-- a link of the head at a place leads to a later one of the first so many heads, or to none
pub record IsLink (count place link : ℕ) : Type 0 where
  pub within : link ≤ count
  pub later : 0 < link → place + 1 < link

-- the first so many heads hang: the walk of each one's number passes it
pub record AreHung (slots : List ℕ) (forks : List Fork) (numbers : List ℕ) (count : ℕ) : Type 0 where
  pub first : (slot : ℕ) → slice_index slots slot ≤ count
  pub next : (place : ℕ) (right : Bool) → IsLink count place (link_at forks place right)
  pub passed : (place number : ℕ) → place < count → slice_get numbers place ≡ Some number → IsTrue (passes (walk_of slots forks number) place)

-- the filter tells that the first so many numbers came
abbrev pub AreTold : List ℕ → List ℕ → ℕ → Type 0
AreTold filter numbers count = (place number : ℕ) → place < count → slice_get numbers place ≡ Some number → IsTrue (may_hold filter number)

-- all heads hang, and the filter tells that their numbers came
pub record HaveWalks (p : Places) (numbers : List ℕ) : Type 0 where
  pub each : length p.forks.items ≡ length numbers
  pub hung : AreHung p.slots.items p.forks.items numbers (length numbers)
  pub told : AreTold p.filter numbers (length numbers)
