-- Texts that are put in order one by one are the same texts, sorted.
use Rattle.std.proofs.Common.{◌≡◌, ℕ, zero, suc, ◌+◌, ◌<◌, ◌≤◌, List, [], ◌∷◌, length, get_or, Bool, true, false, cond, Ordering, Less, Equal, Greater, refl, ◌∙◌, ap, arith, nat_cmp}
use Rattle.std.specs.Cmp.Lexicographic.{slice_cmp, nat_list_cmp_total}
use Rattle.std.specs.List.Sorted.{IsPermutation, IsSorted}
use Rattle.std.specs.Ordering.{is_lt, ordering_reverse}
use Rattle.std.proofs.lemmas.List.Sorted.{IsPermutation-refl, IsPermutation-cons, IsPermutation-trans, IsPermutation-swap}
use Rattle.link_rules.specs.Places.{Bytes}
use Rattle.link_rules.specs.Sorting.{sorted_with, sorted_texts, IsSortedTexts}

-- a text comes before another
abbrev is_less : Bytes → Bytes → Bool
is_less x y = is_lt (slice_cmp nat_cmp x y)

-- what is less is not less turned round
by-order : (o : Ordering) → is_lt o ≡ true → is_lt (ordering_reverse o) ≡ false
by-order Less is = refl
by-order Equal is = absurd cc
by-order Greater is = absurd cc

-- what is less is not more
not-back : (x y : Bytes) → is_less x y ≡ true → is_less y x ≡ false
not-back x y less = ap is_lt (nat_list_cmp_total.antisymm y x) ∙ by-order (slice_cmp nat_cmp x y) less

-- the first of a list, if there is one, is not less than y
unfoldable IsNotBelow : Bytes → List Bytes → Type 0
IsNotBelow y xs = (d : Bytes) → 0 < length xs → is_less (get_or xs 0 d) y ≡ false

-- a text before the first of a sorted list
sorted-cons : (x : Bytes) (xs : List Bytes) → IsNotBelow x xs → IsSorted (slice_cmp nat_cmp) xs → IsSorted (slice_cmp nat_cmp) (x ∷ xs)
unfolding IsNotBelow
sorted-cons x xs first up = step
  where
    step : (k : ℕ) (d : Bytes) → 0 ≤ k → k + 1 < length (x ∷ xs) → is_less (get_or (x ∷ xs) (k + 1) d) (get_or (x ∷ xs) k d) ≡ false
    step zero d low lt = first d (omega (arith, lt))
    step (suc k) d low lt =
        let next : suc k + 1 ≡ suc (k + 1) = omega arith in
        rw next (up k d (omega arith) (omega (arith, lt)))

-- the second of a sorted list is not less than the first
first-of-sorted : (x : Bytes) (xs : List Bytes) → IsSorted (slice_cmp nat_cmp) (x ∷ xs) → IsNotBelow x xs
unfolding IsNotBelow
first-of-sorted x xs up d some = up 0 d (omega arith) (omega (arith, some))

-- the tail of a sorted list is sorted
rest-of-sorted : (x : Bytes) (xs : List Bytes) → IsSorted (slice_cmp nat_cmp) (x ∷ xs) → IsSorted (slice_cmp nat_cmp) xs
rest-of-sorted x xs up = λ k d low lt.
    let next : suc k + 1 ≡ suc (k + 1) = omega arith in
    let inside : suc (k + 1) < suc (length xs) = omega (arith, lt) in
    rw next at (up (suc k) d (omega arith) (rw next inside))

-- the first stays not less where a text is put in that is not
not-below-with : (y text : Bytes) (xs : List Bytes) → is_less text y ≡ false → IsNotBelow y xs → IsNotBelow y (sorted_with text xs)
unfolding IsNotBelow
not-below-with y text [] is first d some = is
not-below-with y text (x ∷ xs) is first d some = by-test (is_less x text)
  where
    by-test : (b : Bool) → is_less (get_or (cond b (x ∷ sorted_with text xs) (text ∷ x ∷ xs)) 0 d) y ≡ false
    by-test true = first d (omega arith)
    by-test false = is

-- a text put in, by whether the head is less
with-by : (text x : Bytes) (xs : List Bytes) (b : Bool) → is_less x text ≡ b → IsSorted (slice_cmp nat_cmp) (x ∷ xs)
    → IsSorted (slice_cmp nat_cmp) (sorted_with text xs) → IsSorted (slice_cmp nat_cmp) (cond b (x ∷ sorted_with text xs) (text ∷ x ∷ xs))
unfolding IsNotBelow
with-by text x xs true less up rest = sorted-cons x (sorted_with text xs) (not-below-with x text xs (not-back x text less) (first-of-sorted x xs up)) rest
with-by text x xs false less up rest = sorted-cons text (x ∷ xs) (λ d some. less) up

-- a list into which a text is put stays sorted
sorted-with : (text : Bytes) (xs : List Bytes) → IsSorted (slice_cmp nat_cmp) xs → IsSorted (slice_cmp nat_cmp) (sorted_with text xs)
unfolding IsNotBelow
sorted-with text [] up = sorted-cons text [] (λ d some. absurd (omega (arith, some))) up
sorted-with text (x ∷ xs) up = with-by text x xs (is_less x text) refl up (sorted-with text xs (rest-of-sorted x xs up))

-- the first two in each other's place
swapped : (a b : Bytes) (xs : List Bytes) → IsPermutation (a ∷ b ∷ xs) (b ∷ a ∷ xs)
swapped a b xs = IsPermutation-swap (a ∷ b ∷ xs) (b ∷ a ∷ xs) 0 1 (omega arith) (omega arith) refl

-- the same texts, by whether the head is less
same-by : (text x : Bytes) (xs : List Bytes) (b : Bool) → IsPermutation (text ∷ xs) (sorted_with text xs)
    → IsPermutation (text ∷ x ∷ xs) (cond b (x ∷ sorted_with text xs) (text ∷ x ∷ xs))
same-by text x xs true rest = IsPermutation-trans (text ∷ x ∷ xs) (x ∷ text ∷ xs) (x ∷ sorted_with text xs) (swapped text x xs)
    (IsPermutation-cons x (text ∷ xs) (sorted_with text xs) rest)
same-by text x xs false rest = IsPermutation-refl (text ∷ x ∷ xs)

-- a text that is put in is one text more
same-with : (text : Bytes) (xs : List Bytes) → IsPermutation (text ∷ xs) (sorted_with text xs)
same-with text [] = IsPermutation-refl (text ∷ [])
same-with text (x ∷ xs) = same-by text x xs (is_less x text) (same-with text xs)

-- texts that are put in order are the same texts, sorted
pub sorted_texts-sorted : (texts : List Bytes) → IsSortedTexts texts (sorted_texts texts)
sorted_texts-sorted [] = (IsPermutation-refl [], λ k d low lt. absurd (omega (arith, lt)))
sorted_texts-sorted (x ∷ xs) =
    let rest = sorted_texts-sorted xs in (
      IsPermutation-trans (x ∷ xs) (x ∷ sorted_texts xs) (sorted_with x (sorted_texts xs)) (IsPermutation-cons x xs (sorted_texts xs) rest.0) (same-with x (sorted_texts xs)),
      sorted-with x (sorted_texts xs) rest.1,
    )
