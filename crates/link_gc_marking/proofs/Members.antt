-- Which elements a filter keeps, what a function gives of elements, and the numbers below a count.
use Rattle.std.proofs.Common.{◌≡◌, ◌∙◌, ◌+◌, ◌<◌, ℕ, zero, suc, Bool, true, false, List, [], ◌∷◌, ◌++◌, cond, filter, map, length, get_or, refl, sym, ap, subst, arith, inl, inr, append-nil, ext_get_or}
use Rattle.std.specs.Prelude.{Contains}
use Rattle.std.specs.List.{range_with_len}
use Rattle.std.proofs.lemmas.Bool.{both_ways}
use Rattle.std.proofs.lemmas.List.Elements.{filter-append}
use Rattle.std.proofs.lemmas.List.FromFn.{get_or-map-range_with_len, get_or-range_with_len, length-map-range_with_len, length-range_with_len}
use Rattle.link_closure.proofs.Joins.{contains_cases, contains_here, contains_later, contains_none}

module _ {X : Type 0} (p : X → Bool) where
  -- what is kept is an element that passes
  pub kept-from : (xs : List X) (x : X) → Contains (filter p xs) x → Contains xs x × (p x ≡ true)
  kept-from [] x has = contains_none x has
  kept-from (y ∷ xs) x has = by (λ later. kept-from xs x later) (p y) refl has
    where
      by : (Contains (filter p xs) x → Contains xs x × (p x ≡ true)) → (b : Bool) → p y ≡ b → Contains (cond b (y ∷ filter p xs) (filter p xs)) x
          → Contains (y ∷ xs) x × (p x ≡ true)
      by deeper true passes has = elim (contains_cases y x (filter p xs) has) [
        | inl is ↦ (subst (λ z. Contains (y ∷ xs) z) is (contains_here y xs), subst (λ z. p z ≡ true) is passes)
        | inr later ↦ let kept = deeper later in (contains_later y x xs kept.0, kept.1)
      ]
      by deeper false fails has = let kept = deeper has in (contains_later y x xs kept.0, kept.1)

  -- and each of them is kept
  pub kept-in : (xs : List X) (x : X) → Contains xs x → p x ≡ true → Contains (filter p xs) x
  kept-in [] x has passes = contains_none x has
  kept-in (y ∷ xs) x has passes = by (λ later. kept-in xs x later passes) (p y) refl
    where
      by : (Contains xs x → Contains (filter p xs) x) → (b : Bool) → p y ≡ b → Contains (cond b (y ∷ filter p xs) (filter p xs)) x
      by deeper true is = elim (contains_cases y x xs has) [
        | inl same ↦ subst (λ z. Contains (y ∷ filter p xs) z) same (contains_here y (filter p xs))
        | inr later ↦ contains_later y x (filter p xs) (deeper later)
      ]
      by deeper false is = elim (contains_cases y x xs has) [
        | inl same ↦ absurd (both_ways (p x) (sym (ap p same) ∙ is) passes)
        | inr later ↦ deeper later
      ]

module _ {X Y : Type 0} (f : X → Y) where
  -- what is given is of an element
  pub given-from : (xs : List X) (y : Y) → Contains (map f xs) y → (x : X) × Contains xs x × (f x ≡ y)
  given-from [] y has = contains_none y has
  given-from (x ∷ xs) y has = elim (contains_cases (f x) y (map f xs) has) [
    | inl is ↦ (x, contains_here x xs, is)
    | inr later ↦ let of = given-from xs y later in (of.0, contains_later x of.0 xs of.1, of.2)
  ]

  -- and that of each element is given
  pub given-in : (xs : List X) (x : X) → Contains xs x → Contains (map f xs) (f x)
  given-in [] x has = contains_none x has
  given-in (y ∷ xs) x has = elim (contains_cases y x xs has) [
    | inl same ↦ subst (λ z. Contains (f y ∷ map f xs) (f z)) same (contains_here (f y) (map f xs))
    | inr later ↦ contains_later (f y) (f x) (map f xs) (given-in xs x later)
  ]

-- a number of a range is below its length
pub range-below : (n k : ℕ) → Contains (range_with_len 0 n) k → k < n
range-below n k has =
    let len = length-range_with_len 0 n in
    let inside = has.1 in
    let lt : has.0 < n = omega arith in
    let at = get_or-range_with_len 0 n has.0 k lt in
    let is = has.2 in
    omega arith

-- and each number below it is one of it
pub below-range : (n k : ℕ) → k < n → Contains (range_with_len 0 n) k
below-range n k lt =
    let len = length-range_with_len 0 n in
    let at = get_or-range_with_len 0 n k k lt in
    let same : 0 + k ≡ k = omega arith in
    (k, omega arith, at ∙ same)

-- the numbers below one more
numbers-more : (a n j : ℕ) → a + n ≡ j → range_with_len a (n + 1) ≡ range_with_len a n ++ j ∷ []
numbers-more a n j is = let on : n + 1 ≡ suc n = omega arith in ap (range_with_len a) on ∙ last a n j is
  where
    last : (a n j : ℕ) → a + n ≡ j → range_with_len a (suc n) ≡ range_with_len a n ++ j ∷ []
    last a zero j is = let same : a ≡ j = omega arith in ap (λ k. k ∷ []) same
    last a (suc n) j is = ap (λ l. a ∷ l) (last (a + 1) n j (omega arith))

module _ (p : ℕ → Bool) where
  -- a number that passes comes behind those before it
  pub number-more : (k : ℕ) (numbers : List ℕ) → numbers ≡ filter p (range_with_len 0 k) → p k ≡ true → numbers ++ k ∷ [] ≡ filter p (range_with_len 0 (k + 1))
  number-more k numbers is passes =
      sym (ap (filter p) (numbers-more 0 k k (omega arith)) ∙ (filter-append p (range_with_len 0 k) (k ∷ [])
      ∙ (ap (λ b. filter p (range_with_len 0 k) ++ cond b (k ∷ []) []) passes ∙ ap (λ l. l ++ k ∷ []) (sym is))))

  -- one that doesn't adds none
  pub number-passed : (k : ℕ) (numbers : List ℕ) → numbers ≡ filter p (range_with_len 0 k) → p k ≡ false → numbers ≡ filter p (range_with_len 0 (k + 1))
  number-passed k numbers is fails =
      sym (ap (filter p) (numbers-more 0 k k (omega arith)) ∙ (filter-append p (range_with_len 0 k) (k ∷ [])
      ∙ (ap (λ b. filter p (range_with_len 0 k) ++ cond b (k ∷ []) []) fails ∙ (append-nil (filter p (range_with_len 0 k)) ∙ sym is))))

-- each element of a list, by its place
pub by-place : {X : Type 0} (d : X) (xs : List X) (n : ℕ) → length xs ≡ n → map (λ i. get_or xs i d) (range_with_len 0 n) ≡ xs
by-place {X} d xs n is =
    let at : ℕ → X = λ i. get_or xs i d in
    let count = length-map-range_with_len at 0 n in
    ext_get_or d (map at (range_with_len 0 n)) xs (count ∙ sym is)
    (λ i lt. let same : 0 + i ≡ i = omega arith in get_or-map-range_with_len at 0 n i i d (omega (arith, lt, count)) same)
