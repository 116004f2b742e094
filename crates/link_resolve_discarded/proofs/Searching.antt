-- First places in lists.
use Rattle.std.proofs.Common.{◌≡◌, ◌+◌, ◌∙◌, ◌++◌, ℕ, suc, Bool, true, false, if◌then◌else◌, List, [], ◌∷◌, length, Some, refl, sym, ap, arith}
use Rattle.std.specs.Prelude.{slice_get}
use Rattle.std.specs.Option.{option_or}
use Rattle.std.proofs.lemmas.Option.{same_Some}
use Rattle.link_input.specs.Checks.{first_place}

-- a first place is one of the list, and passes the test
pub first_place-holds : {A : Type 0} (p : ℕ → A → Bool) (n : ℕ) (xs : List A) (i : ℕ) → first_place p n xs ≡ Some i
    → (k : ℕ) × (x : A) × (n + k ≡ i) × (slice_get xs k ≡ Some x) × (p i x ≡ true)
first_place-holds p n [] i e = absurd cc
first_place-holds {A} p n (x ∷ xs) i e = by (p n x) refl e (first_place-holds p (n + 1) xs i)
  where
    Held : ℕ → List A → Type 0
    Held m ys = (k : ℕ) × (y : A) × (m + k ≡ i) × (slice_get ys k ≡ Some y) × (p i y ≡ true)

    by : (b : Bool) → p n x ≡ b → (if b then Some n else first_place p (n + 1) xs) ≡ Some i → (first_place p (n + 1) xs ≡ Some i → Held (n + 1) xs) → Held n (x ∷ xs)
    by true holds found later =
        let same : n ≡ i = same_Some n i found in
        let place : n + 0 ≡ i = omega arith in
        (0, x, place, refl, sym (ap (λ m. p m x) same) ∙ holds)
    by false holds found later =
        let rest = later found in
        let place : n + suc rest.0 ≡ i = omega (arith, rest.2) in
        (suc rest.0, rest.1, place, rest.3, rest.4)

-- in order: among some, or behind them
pub first_place-append : {A : Type 0} (p : ℕ → A → Bool) (n : ℕ) (xs ys : List A) → first_place p n (xs ++ ys) ≡ option_or (first_place p n xs) (first_place p (n + length xs) ys)
first_place-append p n [] ys = let same : n ≡ n + 0 = omega arith in ap (λ m. first_place p m ys) same
first_place-append p n (x ∷ xs) ys = by (p n x) (first_place-append p (n + 1) xs ys)
  where
    next : n + 1 + length xs ≡ n + length (x ∷ xs)
    next = omega arith

    by : (b : Bool) → first_place p (n + 1) (xs ++ ys) ≡ option_or (first_place p (n + 1) xs) (first_place p (n + 1 + length xs) ys)
        → (if b then Some n else first_place p (n + 1) (xs ++ ys)) ≡ option_or (if b then Some n else first_place p (n + 1) xs) (first_place p (n + length (x ∷ xs)) ys)
    by true rest = refl
    by false rest = rest ∙ ap (λ m. option_or (first_place p (n + 1) xs) (first_place p m ys)) next
