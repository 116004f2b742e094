-- The column of indices as it grows.
use Rattle.std.proofs.Common.{◌≡◌, ◌≢◌, ◌⊎◌, ◌<◌, ◌≤◌, ◌+◌, ◌==◌, ◌&&◌, ◌∙◌, ◌++◌, ℕ, zero, suc, Bool, true, false, cond, if◌then◌else◌, List, [], ◌∷◌, length, length-take, get_or, set, take, All, Option, Some, None, refl, sym, ap, subst, inl, inr, arith}
use Rattle.std.specs.Prelude.{filter, not, slice_get, IfSome}
use Rattle.std.specs.Option.{option_or}
use Rattle.std.specs.List.{enumerate_from}
use Rattle.std.proofs.lemmas.Bool.{cases_eq, eq-eqb, ne_eqb}
use Rattle.std.proofs.lemmas.List.{take_more}
use Rattle.std.proofs.lemmas.List.Elements.{All-nil, All-cons}
use Rattle.std.proofs.lemmas.Option.{same_Some, slice_get-get_or}
use Rattle.link_closure.specs.Closure.{is_marked}
use Rattle.link_input.specs.Checks.{first_place}
use Rattle.link_input.specs.ObjectFile.{ObjectFile}
use Rattle.link_resolve_comdat.proofs.FirstPlace.{first_place-below}
use Rattle.link_resolve_comdat.proofs.Noting.{group_at-set}
use Rattle.link_resolve_comdat.proofs.Rising.{AreFrom, AreRising}
use Rattle.link_resolve_discarded.specs.Indexed.{index_at, index_of}
use Rattle.link_resolve_discarded.proofs.Searching.{first_place-append}

place_above : (n : ℕ) (objects : List (ℕ × ObjectFile)) (i : ℕ) (o : ℕ × ObjectFile) → AreFrom n objects → slice_get objects i ≡ Some o → n ≤ o.0
unfolding AreFrom
place_above n [] i o all there = absurd cc
place_above n (p ∷ ps) zero o all there = subst (λ (x : ℕ × ObjectFile). n ≤ x.0) (same_Some p o there) all.0
place_above n (p ∷ ps) (suc i) o all there = place_above n ps i o all.1 there

-- where places rise, none before an object has its place
none-before : (n : ℕ) (objects : List (ℕ × ObjectFile)) (i : ℕ) (o : ℕ × ObjectFile) → AreRising objects → slice_get objects i ≡ Some o
    → first_place (λ j x. x.0 == o.0) n (take i objects) ≡ None
unfolding AreRising
none-before n objects zero o rise there = refl
none-before n [] (suc i) o rise there = absurd cc
none-before n (p ∷ ps) (suc i) o rise there =
    let above = place_above (p.0 + 1) ps i o rise.0 there in
    let other : (p.0 == o.0) ≡ false = ne_eqb p.0 o.0 (λ same. omega arith) in
    rw other (none-before (n + 1) ps i o rise.1 there)

-- one object more
index-more : (objects : List (ℕ × ObjectFile)) (i f : ℕ) (o : ℕ × ObjectFile) → i < length objects → get_or objects i o ≡ o
    → index_of (take (i + 1) objects) f ≡ option_or (index_of (take i objects) f) (if o.0 == f then Some i else None)
index-more objects i f o lt is =
    let more : take (i + 1) objects ≡ take i objects ++ o ∷ [] = take_more objects i o lt ∙ ap (λ (x : ℕ × ObjectFile). take i objects ++ x ∷ []) is in
    let long : 0 + length (take i objects) ≡ i = grind (arith, length-take) in
    ap (λ (xs : List (ℕ × ObjectFile)). index_of xs f) more
    ∙ (first_place-append (λ j x. x.0 == f) 0 (take i objects) (o ∷ [])
    ∙ ap (λ n. option_or (index_of (take i objects) f) (if o.0 == f then Some n else None)) long)

-- a write more: the column has the indices of the objects so far
pub column-more : (objects : List (ℕ × ObjectFile)) (column : List (Option ℕ)) (i f : ℕ) (o : ℕ × ObjectFile) → AreRising objects → i < length objects → get_or objects i o ≡ o → o.0 < length column
    → index_at column f ≡ index_of (take i objects) f → index_at (set column o.0 (Some i)) f ≡ index_of (take (i + 1) objects) f
column-more objects column i f o rise lt is inside before =
    group_at-set column o.0 i f inside ∙ (by (cases_eq o.0 f) ∙ sym (index-more objects i f o lt is))
  where
    there : slice_get objects i ≡ Some o
    there = slice_get-get_or objects i o lt ∙ ap (λ (x : ℕ × ObjectFile). Some x) is

    none : (same : o.0 ≡ f) → index_of (take i objects) f ≡ None
    none same = subst (λ m. index_of (take i objects) m ≡ None) same (none-before 0 objects i o rise there)

    right : (r : Option ℕ) → r ≡ option_or r None
    right None = refl
    right (Some x) = refl

    by : (o.0 ≡ f) ⊎ (o.0 ≢ f) → (if o.0 == f then Some i else index_at column f) ≡ option_or (index_of (take i objects) f) (if o.0 == f then Some i else None)
    by (inl same) = rw (eq-eqb o.0 f same, none same) refl
    by (inr other) = rw (ne_eqb o.0 f other) (before ∙ right (index_of (take i objects) f))

-- an index is one of the objects
pub index-within : (objects : List (ℕ × ObjectFile)) (f : ℕ) → IfSome (index_of objects f) (λ i. i < length objects)
index-within objects f = by (index_of objects f) refl
  where
    by : (r : Option ℕ) → index_of objects f ≡ r → IfSome r (λ i. i < length objects)
    by None e = tt
    by (Some i) e = let below = first_place-below (λ j x. x.0 == f) 0 objects i e in omega arith

-- an object is marked at a place that has a mark
marked-within : (marks : List Bool) (f : ℕ) → is_marked marks f ≡ true → f < length marks
marked-within [] f e = absurd cc
marked-within (m ∷ ms) zero e = omega arith
marked-within (m ∷ ms) (suc f) e = let rest = marked-within ms f e in omega arith

-- the object has a place that has a mark
abbrev HasMark : List Bool → ℕ × ObjectFile → Type 0
HasMark marks o = o.0 < length marks

-- the places of loaded regular objects have marks
pub regular-within : (marks : List Bool) (n : ℕ) (objects : List ObjectFile) → All (λ o. o.0 < length marks) (filter (λ o. is_marked marks o.0 && not o.1.object.is_dynamic) (enumerate_from n objects))
regular-within marks n [] = All-nil (HasMark marks)
regular-within marks n (o ∷ os) = by (is_marked marks n) refl (not o.object.is_dynamic) (regular-within marks (n + 1) os)
  where
    later : List (ℕ × ObjectFile)
    later = filter (λ o. is_marked marks o.0 && not o.1.object.is_dynamic) (enumerate_from (n + 1) os)

    by : (b : Bool) → is_marked marks n ≡ b → (r : Bool) → All (HasMark marks) later → All (HasMark marks) (cond (b && r) ((n, o) ∷ later) later)
    by true e true rest = All-cons (HasMark marks) (n, o) later (marked-within marks n e) rest
    by true e false rest = rest
    by false e r rest = rest
