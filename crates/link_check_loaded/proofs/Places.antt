-- Tests that pass at each place of a list.
use Rattle.std.proofs.Common.{◌≡◌, ◌+◌, ◌≤◌, ◌&&◌, ◌∙◌, ℕ, zero, suc, Bool, true, false, List, [], ◌∷◌, Some, length, drop, slice_get, refl, sym, ap, subst, arith, add-zero}
use Rattle.std.proofs.Math.Seq.{drop-cons}
use Rattle.std.proofs.lemmas.Option.{get_or_from_slice_get, slice_get_within}
use Rattle.link_rules.proofs.Settled.{both_true, none_some, some_same}
use Rattle.link_check_loaded.specs.Accepted.{all_from}

-- what is left of a list from a place on, and from the next one
pub drop-next : {X : Type 0} (xs : List X) (i : ℕ) (x : X) → slice_get xs i ≡ Some x → drop i xs ≡ x ∷ drop (i + 1) xs
drop-next xs i x at =
    drop-cons xs i x (slice_get_within xs i x at)
    ∙ (ap (λ y. y ∷ drop (suc i) xs) (get_or_from_slice_get xs i x x at) ∙ ap (λ k. x ∷ drop k xs) next)
  where
    next : suc i ≡ i + 1
    next = omega arith

drop-past : {X : Type 0} (i : ℕ) (xs : List X) → length xs ≤ i → drop i xs ≡ []
drop-past zero [] past = refl
drop-past (suc i) [] past = refl
drop-past zero (x ∷ xs) past = absurd (omega (arith, past))
drop-past (suc i) (x ∷ xs) past = drop-past i xs (omega (arith, past))

-- the test passes at this place
pub all-passed : {X : Type 0} (p : ℕ → X → Bool) (xs : List X) (i : ℕ) (x : X) (all : Bool) → slice_get xs i ≡ Some x → all_from p i (drop i xs) ≡ all → p i x ≡ true
    → all_from p (i + 1) (drop (i + 1) xs) ≡ all
all-passed p xs i x all at so_far passes =
    sym (ap (λ l. all_from p i l) (drop-next xs i x at) ∙ ap (λ b. b && all_from p (i + 1) (drop (i + 1) xs)) passes) ∙ so_far

-- it fails at this place
pub all-failed : {X : Type 0} (p : ℕ → X → Bool) (xs : List X) (i : ℕ) (x : X) (all : Bool) → slice_get xs i ≡ Some x → all_from p i (drop i xs) ≡ all → p i x ≡ false → false ≡ all
all-failed p xs i x all at so_far fails =
    sym (ap (λ l. all_from p i l) (drop-next xs i x at) ∙ ap (λ b. b && all_from p (i + 1) (drop (i + 1) xs)) fails) ∙ so_far

-- no place is left
pub all-done : {X : Type 0} (p : ℕ → X → Bool) (xs : List X) (i : ℕ) (all : Bool) → length xs ≤ i → all_from p i (drop i xs) ≡ all → true ≡ all
all-done p xs i all past so_far = sym (ap (λ l. all_from p i l) (drop-past i xs past)) ∙ so_far

-- where it passes at each place, it passes at one
pub all-at : {X : Type 0} (p : ℕ → X → Bool) (n : ℕ) (xs : List X) (k : ℕ) (x : X) → all_from p n xs ≡ true → slice_get xs k ≡ Some x → p (n + k) x ≡ true
all-at p n [] k x all at = absurd (none_some x at)
all-at p n (y ∷ ys) zero x all at =
    ap (λ m. p m x) (add-zero n) ∙ (ap (p n) (sym (some_same y x at)) ∙ (both_true (p n y) (all_from p (n + 1) ys) all).0)
all-at p n (y ∷ ys) (suc k) x all at =
    ap (λ m. p m x) next ∙ all-at p (n + 1) ys k x (both_true (p n y) (all_from p (n + 1) ys) all).1 at
  where
    next : n + suc k ≡ n + 1 + k
    next = omega arith

-- where it passes at one place after another, it passes at each
pub all-from-each : {X : Type 0} (p : ℕ → X → Bool) (n : ℕ) (xs : List X) → ((k : ℕ) (x : X) → slice_get xs k ≡ Some x → p (n + k) x ≡ true) → all_from p n xs ≡ true
all-from-each p n [] each = refl
all-from-each {X} p n (x ∷ xs) each =
    ap (λ b. b && all_from p (n + 1) xs) (subst (λ m. p m x ≡ true) (add-zero n) (each zero x refl))
    ∙ all-from-each p (n + 1) xs (λ k y at. subst (λ m. p m y ≡ true) (next k) (each (suc k) y at))
  where
    next : (k : ℕ) → n + suc k ≡ n + 1 + k
    next k = omega arith
