-- How a parent is found again.
use Rattle.std.specs.Prelude.{◌≡◌, ℕ, ◌<◌, ◌^◌, List, length, slice_index, Option, IfSome}
use Rattle.std.specs.List.Sorted.{IsStrictlyIncreasing}

-- Rising places tell the number of the parent, if there is one, by the place of its name.
pub record TellsParent (places : List ℕ) (place : ℕ → ℕ) (parent : Option ℕ) : Type 0 where
  pub rising : IsStrictlyIncreasing places
  pub among : IfSome parent (λ p. p < length places)
  pub few : IfSome parent (λ p. p < 2 ^ 16)
  pub same : IfSome parent (λ p. slice_index places p ≡ place p)
  pub short : IfSome parent (λ p. place p < 2 ^ 32)
