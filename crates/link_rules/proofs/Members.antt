-- What is in a list: in a map, in joined lists, in a filter, among numbered elements, in a range, and in the parts that a list is cut into.
use Rattle.std.proofs.Common.{◌≡◌, ℕ, zero, suc, ◌+◌, ◌*◌, ◌<◌, List, [], ◌∷◌, Bool, true, false, length, map, cond, refl, sym, ◌∙◌, ap, subst, inl, inr, arith, Some, Contains, slice_get, get_or, filter, take, drop}
use Rattle.std.specs.Prelude.{◌/◌, ◌-◌, ◌%◌, zip}
use Rattle.std.specs.List.{enumerate_from, flat_map, range_with_len}
use Rattle.std.proofs.lemmas.List.{length-take, length-drop, get_or-take, get_or-drop}
use Rattle.std.proofs.lemmas.List.FromFn.{length-range_with_len, get_or-range_with_len}
use Rattle.std.proofs.lemmas.Nat.{div_below}
use Rattle.std.proofs.lemmas.Option.{slice_get_read, slice_get_within, get_or_from_slice_get}
use Rattle.link_closure.proofs.Joins.{contains_append, contains_left, contains_right}
use Rattle.link_rules.specs.Places.{each_from, places_from, kept_if}
use Rattle.link_rules.proofs.Settled.{here, there, here_or_there, nothing_in, none_some, some_same}

module _ {X : Type 0} where
  -- what is in a list has a place
  pub placed : (xs : List X) (x : X) → Contains xs x → (i : ℕ) × (slice_get xs i ≡ Some x)
  placed xs x (i, lt, is) = (i, slice_get_read xs (length xs) i x refl lt (sym is))

  -- what stands at a place is in the list
  pub at_place : (xs : List X) (i : ℕ) (x : X) → slice_get xs i ≡ Some x → Contains xs x
  at_place xs i x at = (i, slice_get_within xs i x at, get_or_from_slice_get xs i x x at)

module _ {X Y : Type 0} where
  -- what is in a map comes from an element
  pub map_from : (f : X → Y) (xs : List X) (y : Y) → Contains (map f xs) y → (x : X) × Contains xs x × (f x ≡ y)
  map_from f [] y within = absurd (nothing_in y within)
  map_from f (x ∷ xs) y within = elim (here_or_there (f x) (map f xs) y within) [
    | inl is ↦ (x, here x xs, is)
    | inr deeper ↦ further (map_from f xs y deeper)
  ]
    where
      further : (z : X) × Contains xs z × (f z ≡ y) → (z : X) × Contains (x ∷ xs) z × (f z ≡ y)
      further (z, in_it, is) = (z, there x xs z in_it, is)

  -- what an element gives is in the map
  pub map_in : (f : X → Y) (xs : List X) (x : X) → Contains xs x → Contains (map f xs) (f x)
  map_in f [] x within = absurd (nothing_in x within)
  map_in f (z ∷ zs) x within = elim (here_or_there z zs x within) [
    | inl is ↦ subst (λ u. Contains (f z ∷ map f zs) (f u)) is (here (f z) (map f zs))
    | inr deeper ↦ there (f z) (map f zs) (f x) (map_in f zs x deeper)
  ]

  -- what is in the joined lists is in that of an element
  pub joined_from : (f : X → List Y) (xs : List X) (y : Y) → Contains (flat_map f xs) y → (x : X) × Contains xs x × Contains (f x) y
  joined_from f [] y within = absurd (nothing_in y within)
  joined_from f (x ∷ xs) y within = elim (contains_append y (f x) (flat_map f xs) within) [
    | inl is ↦ (x, here x xs, is)
    | inr deeper ↦ further (joined_from f xs y deeper)
  ]
    where
      further : (z : X) × Contains xs z × Contains (f z) y → (z : X) × Contains (x ∷ xs) z × Contains (f z) y
      further (z, in_it, is) = (z, there x xs z in_it, is)

  -- what is in the list of an element is in the joined lists
  pub joined_in : (f : X → List Y) (xs : List X) (x : X) (y : Y) → Contains xs x → Contains (f x) y → Contains (flat_map f xs) y
  joined_in f [] x y within gives = absurd (nothing_in x within)
  joined_in f (z ∷ zs) x y within gives = elim (here_or_there z zs x within) [
    | inl is ↦ contains_left y (f z) (flat_map f zs) (subst (λ u. Contains (f u) y) (sym is) gives)
    | inr deeper ↦ contains_right y (f z) (flat_map f zs) (joined_in f zs x y deeper gives)
  ]

  -- a pair of an element and of what a function gives of it and its place has that place
  pub zipped_from : (f : ℕ → X → Y) (n : ℕ) (xs : List X) (q : X × Y) → Contains (zip xs (each_from f n xs)) q
      → (k : ℕ) × (slice_get xs k ≡ Some q.0) × (q.1 ≡ f (n + k) q.0)
  zipped_from f n [] q within = absurd (nothing_in q within)
  zipped_from f n (x ∷ xs) q within = elim (here_or_there (x, f n x) (zip xs (each_from f (n + 1) xs)) q within) [
    | inl is ↦ (0, ap (λ (r : X × Y). Some r.0) is, at_head is)
    | inr deeper ↦ further (zipped_from f (n + 1) xs q deeper)
  ]
    where
      at_head : ◌≡◌ {A = X × Y} (x, f n x) q → q.1 ≡ f (n + 0) q.0
      at_head is =
          let add_zero : n ≡ n + 0 = omega arith in
          subst (λ (r : X × Y). r.1 ≡ f (n + 0) r.0) is (ap (λ i. f i x) add_zero)

      further : (k : ℕ) × (slice_get xs k ≡ Some q.0) × (q.1 ≡ f (n + 1 + k) q.0) → (k : ℕ) × (slice_get (x ∷ xs) k ≡ Some q.0) × (q.1 ≡ f (n + k) q.0)
      further (k, at, is) =
          let next : n + 1 + k ≡ n + suc k = omega arith in
          (suc k, at, is ∙ ap (λ i. f i q.0) next)

  -- each element is in a pair with what the function gives of it and its place
  pub zipped_in : (f : ℕ → X → Y) (n : ℕ) (xs : List X) (k m : ℕ) (x : X) → slice_get xs k ≡ Some x → m ≡ n + k
      → Contains (zip xs (each_from f n xs)) (x, f m x)
  zipped_in f n [] k m x at is = absurd (none_some x at)
  zipped_in f n (y ∷ ys) zero m x at is =
      let first : n ≡ m = omega arith in
      subst (λ z. Contains ((y, f n y) ∷ zip ys (each_from f (n + 1) ys)) (z, f m z)) (some_same y x at)
      (subst (λ i. Contains ((y, f n y) ∷ zip ys (each_from f (n + 1) ys)) (y, f i y)) first (here (y, f n y) (zip ys (each_from f (n + 1) ys))))
  zipped_in f n (y ∷ ys) (suc k) m x at is =
      there (y, f n y) (zip ys (each_from f (n + 1) ys)) (x, f m x) (zipped_in f (n + 1) ys k m x at (omega arith))

module _ {X : Type 0} where
  -- what passes is kept, by whether the head passes
  kept_by_test : (p : X → Bool) (y : X) (ys : List X) (x : X) (b : Bool) → p y ≡ b → p x ≡ true → (Contains ys x → Contains (filter p ys) x)
      → Contains (y ∷ ys) x → Contains (cond b (y ∷ filter p ys) (filter p ys)) x
  kept_by_test p y ys x true passes holds further within = elim (here_or_there y ys x within) [
    | inl is ↦ subst (λ z. Contains (y ∷ filter p ys) z) is (here y (filter p ys))
    | inr deeper ↦ there y (filter p ys) x (further deeper)
  ]
  kept_by_test p y ys x false fails holds further within = elim (here_or_there y ys x within) [
    | inl is ↦ clash (sym fails ∙ ap p is ∙ holds)
    | inr deeper ↦ further deeper
  ]
    where
      clash : false ≡ true → Contains (filter p ys) x
      clash never = cc

  -- what passes is kept
  pub kept_in : (p : X → Bool) (xs : List X) (x : X) → Contains xs x → p x ≡ true → Contains (filter p xs) x
  kept_in p [] x within holds = within
  kept_in p (y ∷ ys) x within holds = kept_by_test p y ys x (p y) refl holds (λ deeper. kept_in p ys x deeper holds) within

  -- each element is among the numbered ones
  pub numbered_in : (n : ℕ) (xs : List X) (k m : ℕ) (x : X) → slice_get xs k ≡ Some x → m ≡ n + k → Contains (enumerate_from n xs) (m, x)
  numbered_in n [] k m x at is = absurd (none_some x at)
  numbered_in n (y ∷ ys) zero m x at is =
      let first : n ≡ m = omega arith in
      subst (λ z. Contains ((n, y) ∷ enumerate_from (n + 1) ys) (m, z)) (some_same y x at)
      (subst (λ i. Contains ((n, y) ∷ enumerate_from (n + 1) ys) (i, y)) first (here (n, y) (enumerate_from (n + 1) ys)))
  numbered_in n (y ∷ ys) (suc k) m x at is = there (n, y) (enumerate_from (n + 1) ys) (m, x) (numbered_in (n + 1) ys k m x at (omega arith))

  -- something stands at a listed place, by whether the head passes
  place_by_test : (n t : ℕ) (y : X) (ys : List X) (ts : List ℕ) (b : Bool) → (Contains ts t → (k : ℕ) × (x : X) × (slice_get ys k ≡ Some x) × (t ≡ n + 1 + k))
      → Contains (kept_if b n ts) t → (k : ℕ) × (x : X) × (slice_get (y ∷ ys) k ≡ Some x) × (t ≡ n + k)
  place_by_test n t y ys ts true further within = elim (here_or_there n ts t within) [
    | inl is ↦ (0, y, refl, omega arith)
    | inr deeper ↦ let it = further deeper in (suc it.0, it.1, it.2, (let at = it.3 in omega arith))
  ]
  place_by_test n t y ys ts false further within = let it = further within in (suc it.0, it.1, it.2, (let at = it.3 in omega arith))

  -- something stands at a listed place
  pub place_from : (p : X → Bool) (n : ℕ) (xs : List X) (t : ℕ) → Contains (places_from p n xs) t → (k : ℕ) × (x : X) × (slice_get xs k ≡ Some x) × (t ≡ n + k)
  place_from p n [] t within = absurd (nothing_in t within)
  place_from p n (y ∷ ys) t within = place_by_test n t y ys (places_from p (n + 1) ys) (p y) (place_from p (n + 1) ys t) within

  -- what is in the front is in the list
  front_from : (m : ℕ) (xs : List X) (x : X) → Contains (take m xs) x → Contains xs x
  front_from zero xs x within = absurd (nothing_in x within)
  front_from (suc m) [] x within = within
  front_from (suc m) (y ∷ ys) x within = elim (here_or_there y (take m ys) x within) [
    | inl is ↦ subst (λ z. Contains (y ∷ ys) z) is (here y ys)
    | inr deeper ↦ there y ys x (front_from m ys x deeper)
  ]

  -- what is in the rest is in the list
  rest_from : (n : ℕ) (xs : List X) (x : X) → Contains (drop n xs) x → Contains xs x
  rest_from zero xs x within = within
  rest_from (suc n) [] x within = within
  rest_from (suc n) (y ∷ ys) x within = there y ys x (rest_from n ys x within)

  -- what is in a part is in the list
  pub part_from : (m n : ℕ) (xs : List X) (x : X) → Contains (take m (drop n xs)) x → Contains xs x
  part_from m n xs x within = rest_from n xs x (front_from m (drop n xs) x within)

  -- each element is in a part
  pub part_in : (m : ℕ) (xs : List X) (x : X) → 0 < m → Contains xs x
      → (k : ℕ) × (k < (length xs + m - 1) / m) × Contains (take m (drop (m * k) xs)) x
  part_in m xs x some (i, lt, is) = (i / m, fewer, (i % m, short, same))
    where
      whole : m * (i / m) + i % m ≡ i
      whole = omega arith

      below : i % m < m
      below = omega arith

      fewer : i / m < (length xs + m - 1) / m
      fewer = div_below i m ((length xs + m - 1) / m) some (omega arith)

      short : i % m < length (take m (drop (m * (i / m)) xs))
      short = omega (arith, length-take m (drop (m * (i / m)) xs), length-drop (m * (i / m)) xs, whole, below)

      same : get_or (take m (drop (m * (i / m)) xs)) (i % m) x ≡ x
      same = get_or-take m (drop (m * (i / m)) xs) (i % m) x below ∙ get_or-drop (m * (i / m)) xs (i % m) x ∙ ap (λ j. get_or xs j x) whole ∙ is

-- the numbers below a count are in its range
pub range_in : (n k : ℕ) → k < n → Contains (range_with_len 0 n) k
range_in n k below =
    let zero_add : 0 + k ≡ k = omega arith in
    (k, omega (arith, length-range_with_len 0 n), get_or-range_with_len 0 n k k below ∙ zero_add)

-- what is in the range of a count is below it
pub range_from : (n k : ℕ) → Contains (range_with_len 0 n) k → k < n
range_from n k (i, lt, is) =
    let short : i < n = omega (arith, length-range_with_len 0 n) in
    omega (arith, get_or-range_with_len 0 n i k short, is)
