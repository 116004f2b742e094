-- The cut of objects into groups, one object after another, is the one that is wanted.
use Rattle.std.proofs.Common.{◌≡◌, ℕ, ◌+◌, ◌<◌, ◌≤◌, ◌⊎◌, ◌&&◌, ◌||◌, Bool, true, false, cond, List, [], ◌∷◌, ◌++◌, length, Option, Some, slice_get, refl, sym, ap, ◌∙◌, inl, inr, ⊎_elim, arith, append_assoc, length-append}
use Rattle.std.specs.Prelude.{nat_lt, nat_le}
use Rattle.std.specs.List.{flat_map, AllByRecursion}
use Rattle.std.proofs.lemmas.Bool.{cond_both, and_parts, and_cases, or_parts, ltb-true, ltb-false, leb-false}
use Rattle.std.proofs.lemmas.Option.{same_Some}
use Rattle.link_input.specs.ObjectFile.{ObjectFile}
use Rattle.link_input.specs.Limits.{total}
use Rattle.link_input_groups.specs.Cut.{symbols_in, is_past, is_full_for, IsWithin, AreFull, IsCut}

abbrev pub size : ObjectFile → ℕ
size o = length o.object.symbols

-- a group of so many objects ends before the next, with which it would have so many symbols
abbrev pub ends : ℕ → Option ℕ → ℕ → ℕ → Bool
ends files limit count symbols = nat_lt 0 count && (nat_le files count || is_past limit symbols)

-- the group that is still open, if it has objects
abbrev pub last_group : List ObjectFile → List (List ObjectFile)
last_group [] = []
last_group (c ∷ cs) = (c ∷ cs) ∷ []

-- the groups of objects, after an open group with so many symbols
abbrev pub cut : ℕ → Option ℕ → List ObjectFile → ℕ → List ObjectFile → List (List ObjectFile)
cut files limit current n [] = last_group current
cut files limit current n (x ∷ xs) =
    cond (ends files limit (length current) (n + size x))
    (current ∷ cut files limit (x ∷ []) (0 + size x) xs)
    (cut files limit (current ++ x ∷ []) (n + size x) xs)

pub total-append : {A : Type 0} (f : A → ℕ) (xs ys : List A) → total f (xs ++ ys) ≡ total f xs + total f ys
total-append f [] ys = omega arith
total-append f (x ∷ xs) ys = omega (arith, total-append f xs ys)

-- one object more
symbols-push : (c : List ObjectFile) (x : ObjectFile) (n : ℕ) → n ≡ symbols_in c → n + size x ≡ symbols_in (c ++ x ∷ [])
symbols-push c x n is = omega (arith, total-append size c (x ∷ []))

-- joined, the groups are the objects
joined-last : (c : List ObjectFile) → flat_map (λ g. g) (last_group c) ≡ c ++ []
joined-last [] = refl
joined-last (c ∷ cs) = refl

pub joined-cut : (files : ℕ) (limit : Option ℕ) (c : List ObjectFile) (n : ℕ) (xs : List ObjectFile) → flat_map (λ g. g) (cut files limit c n xs) ≡ c ++ xs
joined-cut files limit c n [] = joined-last c
joined-cut files limit c n (x ∷ xs) =
    cond_both (ends files limit (length c) (n + size x)) (c ∷ cut files limit (x ∷ []) (0 + size x) xs) (cut files limit (c ++ x ∷ []) (n + size x) xs)
    (λ gs. flat_map (λ g. g) gs ≡ c ++ x ∷ xs)
    (λ e. ap (λ r. c ++ r) (joined-cut files limit (x ∷ []) (0 + size x) xs))
    (λ e. joined-cut files limit (c ++ x ∷ []) (n + size x) xs ∙ append_assoc c (x ∷ []) xs)

-- a group that ends has an object
some-ended : (files : ℕ) (limit : Option ℕ) (count n : ℕ) → ends files limit count n ≡ true → 0 < count
some-ended files limit count n e = ltb-true 0 count (and_parts (nat_lt 0 count) (nat_le files count || is_past limit n) e).0

-- no group is empty
some-last : (c : List ObjectFile) → AllByRecursion (λ g. 0 < length g) (last_group c)
some-last [] = tt
some-last (c ∷ cs) = (omega arith, tt)

pub some-cut : (files : ℕ) (limit : Option ℕ) (c : List ObjectFile) (n : ℕ) (xs : List ObjectFile) → AllByRecursion (λ g. 0 < length g) (cut files limit c n xs)
some-cut files limit c n [] = some-last c
some-cut files limit c n (x ∷ xs) =
    cond_both (ends files limit (length c) (n + size x)) (c ∷ cut files limit (x ∷ []) (0 + size x) xs) (cut files limit (c ++ x ∷ []) (n + size x) xs)
    (λ gs. AllByRecursion (λ g. 0 < length g) gs)
    (λ e. (some-ended files limit (length c) (n + size x) e, some-cut files limit (x ∷ []) (0 + size x) xs))
    (λ e. some-cut files limit (c ++ x ∷ []) (n + size x) xs)

-- an open group: its symbols are counted, and it isn't too large
pub record IsOpen (files : ℕ) (limit : Option ℕ) (c : List ObjectFile) (n : ℕ) : Type 0 where
  pub counted : n ≡ symbols_in c
  pub few : length c ≤ files
  pub small : (length c ≤ 1) ⊎ (is_past limit n ≡ false)

-- a group that begins
open-first : (files : ℕ) (limit : Option ℕ) (x : ObjectFile) → 0 < files → IsOpen files limit (x ∷ []) (0 + size x)
open-first files limit x pos = record { counted = omega arith; few = omega arith; small = inl (omega arith) }

-- a group that goes on
open-next : (files : ℕ) (limit : Option ℕ) (c : List ObjectFile) (n : ℕ) (x : ObjectFile) → 0 < files → IsOpen files limit c n → ends files limit (length c) (n + size x) ≡ false → IsOpen files limit (c ++ x ∷ []) (n + size x)
open-next files limit c n x pos o e =
    let len = length-append c (x ∷ []) in
    let counted : n + size x ≡ symbols_in (c ++ x ∷ []) = symbols-push c x n o.counted in
    ⊎_elim
    (λ none.
    let zero : length c ≤ 0 = ltb-false 0 (length c) none in
    record { counted = counted; few = omega arith; small = inl (omega arith) })
    (λ both.
    let parts = or_parts (nat_le files (length c)) (is_past limit (n + size x)) both in
    let less : length c < files = leb-false files (length c) parts.0 in
    record { counted = counted; few = omega arith; small = inr parts.1 })
    (and_cases (nat_lt 0 (length c)) (nat_le files (length c) || is_past limit (n + size x)) e)

-- an open group that has objects may be closed
within-open : (files : ℕ) (limit : Option ℕ) (c : List ObjectFile) (n : ℕ) → 0 < length c → IsOpen files limit c n → IsWithin files limit c
within-open files limit c n some o =
    (o.few, ⊎_elim (λ one. inl (omega arith)) (λ small. inr (rw (← o.counted) small)) o.small)

within-last : (files : ℕ) (limit : Option ℕ) (c : List ObjectFile) (n : ℕ) → IsOpen files limit c n → AllByRecursion (IsWithin files limit) (last_group c)
within-last files limit [] n o = tt
within-last files limit (c ∷ cs) n o = (within-open files limit (c ∷ cs) n (omega arith) o, tt)

pub within-cut : (files : ℕ) (limit : Option ℕ) (c : List ObjectFile) (n : ℕ) (xs : List ObjectFile) → 0 < files → IsOpen files limit c n → AllByRecursion (IsWithin files limit) (cut files limit c n xs)
within-cut files limit c n [] pos o = within-last files limit c n o
within-cut files limit c n (x ∷ xs) pos o =
    cond_both (ends files limit (length c) (n + size x)) (c ∷ cut files limit (x ∷ []) (0 + size x) xs) (cut files limit (c ++ x ∷ []) (n + size x) xs)
    (λ gs. AllByRecursion (IsWithin files limit) gs)
    (λ e. (within-open files limit c n (some-ended files limit (length c) (n + size x) e) o, within-cut files limit (x ∷ []) (0 + size x) xs pos (open-first files limit x pos)))
    (λ e. within-cut files limit (c ++ x ∷ []) (n + size x) xs pos (open-next files limit c n x pos o e))

-- a group begins with the object that it was opened with
first-last : (c : List ObjectFile) (y : ObjectFile) → slice_get c 0 ≡ Some y → (h : List ObjectFile) → slice_get (last_group c) 0 ≡ Some h → slice_get h 0 ≡ Some y
first-last [] y at h is = cc
first-last (c ∷ cs) y at h is =
    let same : (c ∷ cs) ≡ h = same_Some (c ∷ cs) h is in rw (← same) at

first-push : (c : List ObjectFile) (x y : ObjectFile) → slice_get c 0 ≡ Some y → slice_get (c ++ x ∷ []) 0 ≡ Some y
first-push [] x y at = cc
first-push (c ∷ cs) x y at = at

first-cut : (files : ℕ) (limit : Option ℕ) (c : List ObjectFile) (n : ℕ) (xs : List ObjectFile) (y : ObjectFile) → slice_get c 0 ≡ Some y → (h : List ObjectFile) → slice_get (cut files limit c n xs) 0 ≡ Some h → slice_get h 0 ≡ Some y
first-cut files limit c n [] y at = first-last c y at
first-cut files limit c n (x ∷ xs) y at =
    cond_both (ends files limit (length c) (n + size x)) (c ∷ cut files limit (x ∷ []) (0 + size x) xs) (cut files limit (c ++ x ∷ []) (n + size x) xs)
    (λ gs. (h : List ObjectFile) → slice_get gs 0 ≡ Some h → slice_get h 0 ≡ Some y)
    (λ e h is. let same : c ≡ h = same_Some c h is in rw (← same) at)
    (λ e. first-cut files limit (c ++ x ∷ []) (n + size x) xs y (first-push c x y at))

-- one full group more
full-cons : (files : ℕ) (limit : Option ℕ) (c : List ObjectFile) (gs : List (List ObjectFile)) → AreFull files limit gs → ((h : List ObjectFile) → slice_get gs 0 ≡ Some h → (next : ObjectFile) → slice_get h 0 ≡ Some next → is_full_for files limit c next ≡ true) → AreFull files limit (c ∷ gs)
full-cons files limit c [] full first = tt
full-cons files limit c (h ∷ gs) full first = (first h refl, full)

full-last : (files : ℕ) (limit : Option ℕ) (c : List ObjectFile) → AreFull files limit (last_group c)
full-last files limit [] = tt
full-last files limit (c ∷ cs) = tt

-- a group that ends is full
full-ended : (files : ℕ) (limit : Option ℕ) (c : List ObjectFile) (n : ℕ) (x : ObjectFile) → n ≡ symbols_in c → ends files limit (length c) (n + size x) ≡ true → is_full_for files limit c x ≡ true
full-ended files limit c n x counted e =
    rw (← counted) ((and_parts (nat_lt 0 (length c)) (nat_le files (length c) || is_past limit (n + size x)) e).1)

pub full-cut : (files : ℕ) (limit : Option ℕ) (c : List ObjectFile) (n : ℕ) (xs : List ObjectFile) → 0 < files → IsOpen files limit c n → AreFull files limit (cut files limit c n xs)
full-cut files limit c n [] pos o = full-last files limit c
full-cut files limit c n (x ∷ xs) pos o =
    cond_both (ends files limit (length c) (n + size x)) (c ∷ cut files limit (x ∷ []) (0 + size x) xs) (cut files limit (c ++ x ∷ []) (n + size x) xs)
    (λ gs. AreFull files limit gs)
    (λ e. full-cons files limit c (cut files limit (x ∷ []) (0 + size x) xs) (full-cut files limit (x ∷ []) (0 + size x) xs pos (open-first files limit x pos))
    (λ h is next at.
    let same : x ≡ next = same_Some x next (sym (first-cut files limit (x ∷ []) (0 + size x) xs x refl h is) ∙ at) in
    rw (← same) (full-ended files limit c n x o.counted e)))
    (λ e. full-cut files limit (c ++ x ∷ []) (n + size x) xs pos (open-next files limit c n x pos o e))

-- the whole cut
pub cut-is : (files : ℕ) (limit : Option ℕ) (objects : List ObjectFile) → 0 < files → IsCut files limit objects (cut files limit [] 0 objects)
cut-is files limit objects pos =
    let o : IsOpen files limit [] 0 = record { counted = refl; few = omega arith; small = inl (omega arith) } in
    record {
      joined = joined-cut files limit [] 0 objects;
      some = some-cut files limit [] 0 objects;
      within = within-cut files limit [] 0 objects pos o;
      full = full-cut files limit [] 0 objects pos o;
    }
