-- Runs of numbers.
use Rattle.std.specs.Prelude.{ℕ, ◌≡◌, ◌+◌, ◌-◌, ◌<◌, ◌≤◌, ◌↔◌, List, Contains}
use Rattle.std.specs.List.{range_with_len}
use Rattle.std.specs.List.Sorted.{IsStrictlyIncreasing}

-- a run of numbers: the first, and how many
pub record Span : Type 0 where
  pub start : ℕ
  pub len : ℕ

-- a number of the run
abbrev pub IsInside : Span → ℕ → Type 0
IsInside s n = (s.start ≤ n) × (n < s.start + s.len)

-- the number at an offset
abbrev pub id_at : Span → ℕ → ℕ
id_at s offset = s.start + offset

-- the offset of a number
abbrev pub offset_in : Span → ℕ → ℕ
offset_in s n = n - s.start

-- the numbers of the run, rising
abbrev pub ids_of : Span → List ℕ
ids_of s = range_with_len s.start s.len

-- inside a run, numbers and offsets lead to each other
abbrev pub NumbersAndOffsetsAreInverse : Span → Type 0
NumbersAndOffsetsAreInverse s =
    ((offset : ℕ) → offset < s.len → IsInside s (id_at s offset) × (offset_in s (id_at s offset) ≡ offset))
    × ((n : ℕ) → IsInside s n → (offset_in s n < s.len) × (id_at s (offset_in s n) ≡ n))

-- a run's list rises, and has exactly the numbers of the run
abbrev pub ListsTheRun : Span → Type 0
ListsTheRun s = IsStrictlyIncreasing (ids_of s) × ((n : ℕ) → Contains (ids_of s) n ↔ IsInside s n)
