-- Between which numbers a first place stands.
use Rattle.std.proofs.Common.{◌≡◌, ◌<◌, ◌≤◌, ◌+◌, ℕ, Bool, true, false, if◌then◌else◌, List, [], ◌∷◌, length, Some, arith}
use Rattle.std.proofs.lemmas.Option.{same_Some}
use Rattle.link_input.specs.Checks.{first_place}

-- it is the number from which the search goes, or a later one
pub first_place-from : {A : Type 0} (p : ℕ → A → Bool) (i : ℕ) (xs : List A) (k : ℕ) → first_place p i xs ≡ Some k → i ≤ k
first_place-from p i [] k e = cc
first_place-from p i (x ∷ xs) k e = by (p i x) e (first_place-from p (i + 1) xs k)
  where
    by : (b : Bool) → (if b then Some i else first_place p (i + 1) xs) ≡ Some k → (first_place p (i + 1) xs ≡ Some k → i + 1 ≤ k) → i ≤ k
    by true e rest = let same = same_Some i k e in omega arith
    by false e rest = let later = rest e in omega arith

-- it is one of as many numbers as there are items
pub first_place-below : {A : Type 0} (p : ℕ → A → Bool) (i : ℕ) (xs : List A) (k : ℕ) → first_place p i xs ≡ Some k → k < i + length xs
first_place-below p i [] k e = cc
first_place-below p i (x ∷ xs) k e = by (p i x) e (first_place-below p (i + 1) xs k)
  where
    by : (b : Bool) → (if b then Some i else first_place p (i + 1) xs) ≡ Some k → (first_place p (i + 1) xs ≡ Some k → k < i + 1 + length xs) → k < i + length (x ∷ xs)
    by true e rest = let same = same_Some i k e in omega arith
    by false e rest = let later = rest e in omega arith
