-- Items that are made of the items of lists.
use Rattle.std.proofs.Common.{◌≡◌, ◌∙◌, ◌+◌, ◌++◌, ◌<◌, ℕ, zero, suc, List, [], ◌∷◌, length, take, Option, Some, None, ◌⊎◌, inl, inr, refl, ap, arith, length-append}
use Rattle.std.specs.Prelude.{All, AllPairs, Contains, filter_map, slice_get}
use Rattle.std.specs.List.{flat_map, cons_option}
use Rattle.std.specs.Option.{option_map}
use Rattle.std.proofs.lemmas.List.Elements.{All-cons, All-nil}
use Rattle.std.proofs.lemmas.Option.{same_Some}

-- what holds of each item and each later one holds of each pair
AllPairs-cons : {A : Type 0} (R : A → A → Type 0) (x : A) (xs : List A) → All (R x) xs → AllPairs R xs → AllPairs R (x ∷ xs)
AllPairs-cons R x xs first rest zero zero d less within = absurd (omega arith)
AllPairs-cons R x xs first rest zero (suc j) d less within = first j d (omega arith)
AllPairs-cons R x xs first rest (suc i) zero d less within = absurd (omega arith)
AllPairs-cons R x xs first rest (suc i) (suc j) d less within = rest i j d (omega arith) (omega arith)

-- what is made of something
pub made_of : {A B : Type 0} (f : A → B) (o : Option A) (y : B) → option_map f o ≡ Some y → (x : A) × (o ≡ Some x) × (f x ≡ y)
made_of f None y e = absurd cc
made_of f (Some x) y e = (x, refl, same_Some (f x) y e)

-- what holds of each that is made of an item
pub all_made : {A B : Type 0} (f : A → Option B) (Q : B → Type 0) (xs : List A) → ((k : ℕ) (x : A) (y : B) → slice_get xs k ≡ Some x → f x ≡ Some y → Q y) → All Q (filter_map f xs)
all_made f Q [] each = All-nil Q
all_made {A} {B} f Q (x ∷ xs) each = by (all_made f Q xs (λ k z y is made. each (suc k) z y is made)) (f x) refl
  where
    by : All Q (filter_map f xs) → (o : Option B) → f x ≡ o → All Q (cons_option o (filter_map f xs))
    by rest None e = rest
    by rest (Some y) e = All-cons Q y (filter_map f xs) (each 0 x y refl e) rest

-- what is made of an item is one of those that are made
pub one_made : {A B : Type 0} (f : A → Option B) (xs : List A) (k : ℕ) (x : A) (y : B) → slice_get xs k ≡ Some x → f x ≡ Some y → Contains (filter_map f xs) y
one_made f [] k x y is made = absurd cc
one_made {A} {B} f (z ∷ xs) zero x y is made =
    let e : f z ≡ Some y = ap f (same_Some z x is) ∙ made in
    rw e (0, omega arith, refl)
one_made {A} {B} f (z ∷ xs) (suc k) x y is made = by (f z) (one_made f xs k x y is made)
  where
    by : (o : Option B) → Contains (filter_map f xs) y → Contains (cons_option o (filter_map f xs)) y
    by None rest = rest
    by (Some w) rest = (suc rest.0, omega arith, rest.2)

-- what holds of each two that are made of items
pub pairs_made : {A B : Type 0} (f : A → Option B) (R : B → B → Type 0) (xs : List A)
    → ((i j : ℕ) (x y : A) (v w : B) → i < j → slice_get xs i ≡ Some x → slice_get xs j ≡ Some y → f x ≡ Some v → f y ≡ Some w → R v w) → AllPairs R (filter_map f xs)
pairs_made f R [] each = λ i j d less within. absurd (omega arith)
pairs_made {A} {B} f R (x ∷ xs) each =
    by (pairs_made f R xs (λ i j y z v w less at_i at_j made_v made_w. each (suc i) (suc j) y z v w (omega arith) at_i at_j made_v made_w)) (f x) refl
  where
    by : AllPairs R (filter_map f xs) → (o : Option B) → f x ≡ o → AllPairs R (cons_option o (filter_map f xs))
    by rest None e = rest
    by rest (Some v) e = AllPairs-cons R v (filter_map f xs) (all_made f (R v) xs (λ k y w at made. each 0 (suc k) x y v w (omega arith) refl at e made)) rest

-- an item of two lists stands in one of them
in_either : {A : Type 0} (xs ys : List A) (k : ℕ) (x : A) → slice_get (xs ++ ys) k ≡ Some x → (slice_get xs k ≡ Some x) ⊎ ((j : ℕ) × (k ≡ length xs + j) × (slice_get ys j ≡ Some x))
in_either [] ys k x is = inr (k, omega arith, is)
in_either (z ∷ xs) ys zero x is = inl is
in_either {A} (z ∷ xs) ys (suc k) x is = elim (in_either xs ys k x is) [ inl w ↦ inl w | inr w ↦ inr (w.0, omega (arith, w.1), w.2) ]

-- an item of many lists stands in one of them, behind all items of those before
pub in_one_of : {A B : Type 0} (f : B → List A) (bs : List B) (k : ℕ) (x : A) → slice_get (flat_map f bs) k ≡ Some x
    → (place : ℕ) × (b : B) × (at : ℕ) × (slice_get bs place ≡ Some b) × (slice_get (f b) at ≡ Some x) × (k ≡ length (flat_map f (take place bs)) + at)
in_one_of f [] k x is = absurd cc
in_one_of {A} {B} f (b ∷ bs) k x is = elim (in_either (f b) (flat_map f bs) k x is) [
  | inl w ↦ (0, b, k, refl, w, omega arith)
  | inr w ↦
      let r = in_one_of f bs w.0 x w.2 in
      (suc r.0, r.1, r.2, r.3, r.4, omega (arith, w.1, r.5, length-append (f b) (flat_map f (take r.0 bs))))
]
