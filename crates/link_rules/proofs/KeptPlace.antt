-- The group that is kept does not hang on the order of the candidates.
use Rattle.std.proofs.Common.{◌≡◌, zero, suc, List, [], ◌∷◌, Bool, true, false, map, cond, refl, ap, subst, inl, inr, ◌⊎◌, arith, Some}
use Rattle.std.specs.Prelude.{Contains, IsPermutation, filter}
use Rattle.std.specs.Str.{bytes_eq}
use Rattle.std.proofs.lemmas.List.Sorted.{Contains-permutation, IsPermutation-sym}
use Rattle.link_rules.specs.Places.{Bytes}
use Rattle.link_rules.specs.Comdat.{GroupPlace, Comdat, is_before, lesser, least_place, kept_place}

module _ {X : Type 0} where
  -- the head is in a list
  here : (x : X) (xs : List X) → Contains (x ∷ xs) x
  here x xs = (0, omega arith, refl)

  -- what is in the tail is in a list
  there : (x : X) (xs : List X) (y : X) → Contains xs y → Contains (x ∷ xs) y
  there x xs y (k, lt, is) = (suc k, omega arith, is)

  -- what is in a list is its head or in its tail
  here_or_there : (x : X) (xs : List X) (y : X) → Contains (x ∷ xs) y → (x ≡ y) ⊎ Contains xs y
  here_or_there x xs y (zero, lt, is) = inl is
  here_or_there x xs y (suc k, lt, is) = inr (k, omega arith, is)

  -- nothing is in the empty list
  nothing_in : (y : X) → Contains [] y → ⊥
  nothing_in y (k, lt, is) = omega arith

-- no place comes before itself
not_before_itself : (p : GroupPlace) → is_before p p ≡ false
not_before_itself p = grind arith

-- of two places not both come before the other
not_before_back : (p q : GroupPlace) → is_before q p ≡ true → is_before p q ≡ false
not_before_back p q before = grind arith

-- to come before none is handed on
not_before_through : (p q r : GroupPlace) → is_before q p ≡ false → is_before r q ≡ false → is_before r p ≡ false
not_before_through p q r first second = grind arith

-- places of which none comes before the other are the same
same_place : (p q : GroupPlace) → is_before p q ≡ false → is_before q p ≡ false → p ≡ q
same_place p q first second = grind arith

-- it is one of these, and none of them comes before it
IsLeast : List GroupPlace → GroupPlace → Type 0
IsLeast ps p = Contains ps p × ((q : GroupPlace) → Contains ps q → is_before q p ≡ false)

-- the lesser of a place and the least of others is the least of all
least_of_two : (p m : GroupPlace) (ps : List GroupPlace) (b : Bool) → is_before m p ≡ b → IsLeast ps m
    → IsLeast (p ∷ ps) (cond b m p)
unfolding IsLeast
least_of_two p m ps true before least = (
  there p ps m least.0,
  λ q within. elim (here_or_there p ps q within) [
    | inl is ↦ subst (λ x. is_before x m ≡ false) is (not_before_back p m before)
    | inr in_rest ↦ least.1 q in_rest
  ],
)
least_of_two p m ps false before least = (
  here p ps,
  λ q within. elim (here_or_there p ps q within) [
    | inl is ↦ subst (λ x. is_before x p ≡ false) is (not_before_itself p)
    | inr in_rest ↦ not_before_through p m q before (least.1 q in_rest)
  ],
)

-- the least place is the least
least_is : (p : GroupPlace) (ps : List GroupPlace) → IsLeast (p ∷ ps) (lesser p (least_place ps))
unfolding IsLeast
least_is p [] = (
  here p [],
  λ q within. elim (here_or_there p [] q within) [
    | inl is ↦ subst (λ x. is_before x p ≡ false) is (not_before_itself p)
    | inr in_rest ↦ absurd (nothing_in q in_rest)
  ],
)
least_is p (q ∷ qs) = least_of_two p (lesser q (least_place qs)) (q ∷ qs) (is_before (lesser q (least_place qs)) p) refl (least_is q qs)

-- two lists of the same places have the same least one
same_least : (ps qs : List GroupPlace) → ((p : GroupPlace) → Contains ps p → Contains qs p)
    → ((p : GroupPlace) → Contains qs p → Contains ps p) → least_place ps ≡ least_place qs
unfolding IsLeast
same_least [] [] into from = refl
same_least [] (q ∷ qs) into from = absurd (nothing_in q (from q (here q qs)))
same_least (p ∷ ps) [] into from = absurd (nothing_in p (into p (here p ps)))
same_least (p ∷ ps) (q ∷ qs) into from =
    let first = least_is p ps in
    let second = least_is q qs in
    ap Some (same_place _ _ (second.1 _ (into _ first.0)) (first.1 _ (from _ second.0)))

-- the places of the candidates that pass a test
places_of : (Comdat → Bool) → List Comdat → List GroupPlace
places_of test cs = map (λ c. c.place) (filter test cs)

-- a candidate that stands behind a place
Behind : (Comdat → Bool) → List Comdat → GroupPlace → Type 0
Behind test cs p = (c : Comdat) × Contains cs c × (test c ≡ true) × (c.place ≡ p)

-- a candidate of the tail is one of the list
behind_further : (test : Comdat → Bool) (c : Comdat) (cs : List Comdat) (p : GroupPlace) → Behind test cs p → Behind test (c ∷ cs) p
unfolding Behind
behind_further test c cs p found = (found.0, there c cs found.0 found.1, found.2, found.3)

-- a place by whether the head passes
placed_by_test : (test : Comdat → Bool) (c : Comdat) (cs : List Comdat) (p : GroupPlace) (b : Bool) → test c ≡ b
    → (Contains (places_of test cs) p → Behind test cs p)
    → Contains (map (λ x. x.place) (cond b (c ∷ filter test cs) (filter test cs))) p → Behind test (c ∷ cs) p
unfolding places_of Behind
placed_by_test test c cs p true passes further within = elim (here_or_there c.place (places_of test cs) p within) [
  | inl is ↦ (c, here c cs, passes, is)
  | inr deeper ↦ behind_further test c cs p (further deeper)
]
placed_by_test test c cs p false fails further within = behind_further test c cs p (further within)

-- a place is that of a candidate that passes
placed_from : (test : Comdat → Bool) (cs : List Comdat) (p : GroupPlace) → Contains (places_of test cs) p → Behind test cs p
unfolding places_of Behind
placed_from test [] p within = absurd (nothing_in p within)
placed_from test (c ∷ cs) p within = placed_by_test test c cs p (test c) refl (placed_from test cs p) within

-- a candidate by whether the head passes
placed_if : (test : Comdat → Bool) (c x : Comdat) (cs : List Comdat) (b : Bool) → test c ≡ b → test x ≡ true
    → (Contains cs x → Contains (places_of test cs) x.place) → (c ≡ x) ⊎ Contains cs x
    → Contains (map (λ y. y.place) (cond b (c ∷ filter test cs) (filter test cs))) x.place
unfolding places_of
placed_if test c x cs true is passes further (inl same) = subst (λ y. Contains (c.place ∷ places_of test cs) y.place) same (here c.place _)
placed_if test c x cs true is passes further (inr deeper) = there c.place _ x.place (further deeper)
placed_if test c x cs false is passes further (inl same) = cc
placed_if test c x cs false is passes further (inr deeper) = further deeper

-- a candidate that passes has its place among them
placed : (test : Comdat → Bool) (cs : List Comdat) (x : Comdat) → Contains cs x → test x ≡ true → Contains (places_of test cs) x.place
unfolding places_of
placed test [] x within passes = absurd (nothing_in x within)
placed test (c ∷ cs) x within passes =
    placed_if test c x cs (test c) refl passes (λ deeper. placed test cs x deeper passes) (here_or_there c cs x within)

-- what stands in one list stands in its permutation
moved : (test : Comdat → Bool) (xs ys : List Comdat) (p : GroupPlace) → IsPermutation xs ys → Contains (places_of test xs) p → Contains (places_of test ys) p
unfolding Behind
moved test xs ys p perm within =
    let found = placed_from test xs p within in
    subst (λ q. Contains (places_of test ys) q) found.3 (placed test ys found.0 (Contains-permutation xs ys found.0 perm found.1) found.2)

-- the kept group of a signature does not depend on the order
pub kept_place-permutation : (xs ys : List Comdat) (signature : Bytes) → IsPermutation xs ys → kept_place xs signature ≡ kept_place ys signature
unfolding places_of
kept_place-permutation xs ys signature perm =
    let test : Comdat → Bool = λ c. bytes_eq c.signature signature in
    same_least (places_of test xs) (places_of test ys) (λ p. moved test xs ys p perm) (λ p. moved test ys xs p (IsPermutation-sym xs ys perm))
