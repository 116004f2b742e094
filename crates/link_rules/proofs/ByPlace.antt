-- Lists by their places: what holds at each place, and what two functions that agree at each place give.
use Rattle.std.proofs.Common.{◌≡◌, ℕ, zero, suc, ◌+◌, List, [], ◌∷◌, Bool, true, false, refl, ◌∙◌, ap, subst, arith, Some, slice_get, Contains}
use Rattle.std.specs.List.{AllByRecursion}
use Rattle.link_rules.specs.Places.{each_from, places_from, kept_if}
use Rattle.link_rules.proofs.Settled.{none_some, some_same, here, there}

module _ {X : Type 0} where
  -- it holds of each place, counted from a number on, and what stands there
  abbrev pub AllFrom : (ℕ → X → Type 0) → ℕ → List X → Type 0
  AllFrom P n [] = Unit {0}
  AllFrom P n (x ∷ xs) = P n x × AllFrom P (n + 1) xs

  -- what holds at each place holds of all
  all-from : (P : ℕ → X → Type 0) (n : ℕ) (xs : List X) → ((k : ℕ) (x : X) → slice_get xs k ≡ Some x → P (n + k) x) → AllFrom P n xs
  all-from P n [] each = tt
  all-from P n (x ∷ xs) each = (subst (λ m. P m x) (add_zero n) (each 0 x refl), all-from P (n + 1) xs further)
    where
      add_zero : (m : ℕ) → m + 0 ≡ m
      add_zero m = omega arith

      further : (k : ℕ) (y : X) → slice_get xs k ≡ Some y → P (n + 1 + k) y
      further k y at =
          let next : n + suc k ≡ n + 1 + k = omega arith in
          subst (λ m. P m y) next (each (suc k) y at)

  -- the same, counted from 0
  pub all-places : (P : ℕ → X → Type 0) (xs : List X) → ((k : ℕ) (x : X) → slice_get xs k ≡ Some x → P k x) → AllFrom P 0 xs
  all-places P xs each = all-from P 0 xs each_from_zero
    where
      each_from_zero : (k : ℕ) (x : X) → slice_get xs k ≡ Some x → P (0 + k) x
      each_from_zero k x at =
          let zero_add : k ≡ 0 + k = omega arith in
          subst (λ m. P m x) zero_add (each k x at)

  -- what holds of each place that passes holds of all
  pub places-all : (P : ℕ → Type 0) (p : X → Bool) (n : ℕ) (xs : List X) → AllFrom (λ s x. p x ≡ true → P s) n xs → AllByRecursion P (places_from p n xs)
  places-all P p n [] all = tt
  places-all P p n (x ∷ xs) all = by_test (p x) refl (places-all P p (n + 1) xs all.1)
    where
      by_test : (b : Bool) → p x ≡ b → AllByRecursion P (places_from p (n + 1) xs) → AllByRecursion P (kept_if b n (places_from p (n + 1) xs))
      by_test true passes rest = (all.0 passes, rest)
      by_test false fails rest = rest

  -- what passes stands among the places
  places-in : (p : X → Bool) (n : ℕ) (xs : List X) (k : ℕ) (x : X) → slice_get xs k ≡ Some x → p x ≡ true → Contains (places_from p n xs) (n + k)
  places-in p n [] k x at passes = absurd (none_some x at)
  places-in p n (y ∷ ys) zero x at passes = by_test (p y) (ap p (some_same y x at) ∙ passes)
    where
      add_zero : n ≡ n + 0
      add_zero = omega arith

      by_test : (b : Bool) → b ≡ true → Contains (kept_if b n (places_from p (n + 1) ys)) (n + 0)
      by_test true is = subst (λ m. Contains (n ∷ places_from p (n + 1) ys) m) add_zero (here n (places_from p (n + 1) ys))
      by_test false is = cc
  places-in p n (y ∷ ys) (suc k) x at passes = by_test (p y) (places-in p (n + 1) ys k x at passes)
    where
      next : n + 1 + k ≡ n + suc k
      next = omega arith

      by_test : (b : Bool) → Contains (places_from p (n + 1) ys) (n + 1 + k) → Contains (kept_if b n (places_from p (n + 1) ys)) (n + suc k)
      by_test true within = subst (λ m. Contains (n ∷ places_from p (n + 1) ys) m) next (there n (places_from p (n + 1) ys) (n + 1 + k) within)
      by_test false within = subst (λ m. Contains (places_from p (n + 1) ys) m) next within

  -- the same, counted from 0
  pub place-in : (p : X → Bool) (xs : List X) (k : ℕ) (x : X) → slice_get xs k ≡ Some x → p x ≡ true → Contains (places_from p 0 xs) k
  place-in p xs k x at passes =
      let zero_add : 0 + k ≡ k = omega arith in
      subst (λ m. Contains (places_from p 0 xs) m) zero_add (places-in p 0 xs k x at passes)

module _ {X Y : Type 0} where
  -- functions that agree at each place give the same
  pub each-same : (f g : ℕ → X → Y) (n : ℕ) (xs : List X) → AllFrom (λ s x. f s x ≡ g s x) n xs → each_from f n xs ≡ each_from g n xs
  each-same f g n [] all = refl
  each-same f g n (x ∷ xs) all = ap (λ y. y ∷ each_from f (n + 1) xs) all.0 ∙ ap (λ l. g n x ∷ l) (each-same f g (n + 1) xs all.1)

module _ {X Y Z : Type 0} where
  -- what a function of place and element gives over what another such function gave
  pub each-each : (f : ℕ → Y → Z) (g : ℕ → X → Y) (n : ℕ) (xs : List X) → each_from f n (each_from g n xs) ≡ each_from (λ s x. f s (g s x)) n xs
  each-each f g n [] = refl
  each-each f g n (x ∷ xs) = ap (λ l. f n (g n x) ∷ l) (each-each f g (n + 1) xs)
