-- Lists in which at most one element has a property, and lists without two different numbers.
use Rattle.std.proofs.Common.{◌≡◌, ℕ, zero, suc, List, [], ◌∷◌, ◌++◌, Bool, true, false, cond, refl, sym, ◌∙◌, ap, subst, inl, inr, Some, None, Option, Contains, slice_get, find, filter, option_map}
use Rattle.std.specs.Prelude.{◌==◌, not}
use Rattle.std.specs.List.{filter_map}
use Rattle.std.proofs.lemmas.Bool.{eq-eqb}
use Rattle.link_closure.proofs.Joins.{contains_append}
use Rattle.link_rules.specs.Places.{first_two}
use Rattle.link_rules.proofs.Settled.{here, there, here_or_there, nothing_in, none_some, some_same}
use Rattle.link_rules.proofs.Members.{at_place}

module _ {X : Type 0} (P : X → Type 0) where
  -- no element has the property
  abbrev pub IsNone : List X → Type 0
  IsNone xs = (x : X) → Contains xs x → P x → ⊥

  -- at most one element has it: where the head has it, none of the others has
  abbrev pub IsAtMostOne : List X → Type 0
  IsAtMostOne [] = Unit {0}
  IsAtMostOne (x ∷ xs) = (P x → IsNone xs) × IsAtMostOne xs

  -- where none has it, at most one has
  pub one-none : (xs : List X) → IsNone xs → IsAtMostOne xs
  one-none [] none = tt
  one-none (x ∷ xs) none = (λ has y within. none y (there x xs y within), one-none xs (λ y within. none y (there x xs y within)))

  -- of two lists at most one element has it, where that is so of each, and not both have one
  pub one-append : (xs ys : List X) → IsAtMostOne xs → IsAtMostOne ys → ((x : X) → Contains xs x → P x → IsNone ys) → IsAtMostOne (xs ++ ys)
  one-append [] ys first second apart = second
  one-append (x ∷ xs) ys first second apart = (
    λ has y within more. elim (contains_append y xs ys within) [
      | inl front ↦ first.0 has y front more
      | inr behind ↦ apart x (here x xs) has y behind more
    ],
    one-append xs ys first.1 second (λ y within. apart y (there x xs y within)),
  )

  -- two places of elements that have it are one
  pub one-place : (xs : List X) (i j : ℕ) (x y : X) → IsAtMostOne xs → slice_get xs i ≡ Some x → slice_get xs j ≡ Some y → P x → P y → i ≡ j
  one-place [] i j x y one at also has more = absurd (none_some x at)
  one-place (z ∷ zs) zero zero x y one at also has more = refl
  one-place (z ∷ zs) zero (suc j) x y one at also has more = absurd (one.0 (subst P (sym (some_same z x at)) has) y (at_place zs j y also) more)
  one-place (z ∷ zs) (suc i) zero x y one at also has more = absurd (one.0 (subst P (sym (some_same z y also)) more) x (at_place zs i x at) has)
  one-place (z ∷ zs) (suc i) (suc j) x y one at also has more = ap (λ k. suc k) (one-place zs i j x y one.1 at also has more)

-- where all numbers are one, no other is found
find-none : (n : ℕ) (ms : List ℕ) → ((m : ℕ) → Contains ms m → m ≡ n) → find (λ m. not (m == n)) ms ≡ None
find-none n [] same = refl
find-none n (m ∷ ms) same =
    let first : m ≡ n = same m (here m ms) in
    let is = eq-eqb m n first in
    ap (λ b. cond (not b) (Some m) (find (λ k. not (k == n)) ms)) is ∙ find-none n ms (λ k within. same k (there m ms k within))

-- where all numbers are one, there are no two
pub first_two-none : (ns : List ℕ) → ((m n : ℕ) → Contains ns m → Contains ns n → m ≡ n) → first_two ns ≡ None
first_two-none [] same = refl
first_two-none (n ∷ ns) same =
    ap (option_map (λ m. (n, m))) (find-none n ns (λ m within. same m n (there n ns m within) (here n ns)))

module _ {X : Type 0} where
  -- what is kept passes, by whether the head passes
  passed_by_test : (p : X → Bool) (y : X) (ys : List X) (x : X) (b : Bool) → p y ≡ b → (Contains (filter p ys) x → p x ≡ true)
      → Contains (cond b (y ∷ filter p ys) (filter p ys)) x → p x ≡ true
  passed_by_test p y ys x true passes further within = elim (here_or_there y (filter p ys) x within) [
    | inl is ↦ subst (λ z. p z ≡ true) is passes
    | inr deeper ↦ further deeper
  ]
  passed_by_test p y ys x false fails further within = further within

  -- what is kept passes
  pub passed : (p : X → Bool) (xs : List X) (x : X) → Contains (filter p xs) x → p x ≡ true
  passed p [] x within = absurd (nothing_in x within)
  passed p (y ∷ ys) x within = passed_by_test p y ys x (p y) refl (passed p ys x) within

  -- where no element gives anything, nothing is given
  pub none_given : {Y : Type 0} (h : X → Option Y) (xs : List X) → ((x : X) → Contains xs x → h x ≡ None) → filter_map h xs ≡ []
  none_given h [] none = refl
  none_given h (x ∷ xs) none = rw (none x (here x xs)) (none_given h xs (λ y within. none y (there x xs y within)))
