-- Texts have one order: two sorted lists of the same texts are equal.
use Rattle.std.proofs.Common.{◌≡◌, ℕ, suc, ◌+◌, ◌<◌, List, [], ◌∷◌, length, false, Ordering, Less, Equal, Greater, refl, sym, ◌∙◌, ap, subst, arith, nat_cmp}
use Rattle.std.specs.Cmp.Lexicographic.{slice_cmp, nat_list_cmp_total}
use Rattle.std.specs.List.{AllByRecursion, sum_by}
use Rattle.std.specs.List.Sorted.{IsPermutation, IsSorted}
use Rattle.std.specs.Ordering.{is_lt, ordering_reverse}
use Rattle.std.proofs.lemmas.List.Elements.{recursion_from_All}
use Rattle.std.proofs.lemmas.List.Sorted.{sum_by-IsPermutation, sorted_far, ranks_by}
use Rattle.std.proofs.lemmas.List.Sums.{sum_by-cons}
use Rattle.std.proofs.lemmas.Map.Lookups.{exact_bytes}
use Rattle.link_rules.specs.Places.{Bytes}

-- 1 where the two are equal
abbrev tie : Ordering → ℕ
tie Less = 0
tie Equal = 1
tie Greater = 0

-- how often a text stands in a list
unfoldable occurs : Bytes → List Bytes → ℕ
occurs z xs = sum_by (λ x. tie (slice_cmp nat_cmp z x)) xs

own-tie : (o : Ordering) → o ≡ ordering_reverse o → tie o ≡ 1
own-tie Less e = absurd (cc)
own-tie Equal e = refl
own-tie Greater e = absurd (cc)

once-more : (x : Bytes) (xs : List Bytes) → occurs x (x ∷ xs) ≡ 1 + occurs x xs
unfolding occurs
once-more x xs = sum_by-cons (λ y. tie (slice_cmp nat_cmp x y)) x xs
    ∙ ap (λ (n : ℕ). n + sum_by (λ y. tie (slice_cmp nat_cmp x y)) xs) (own-tie (slice_cmp nat_cmp x x) (nat_list_cmp_total.antisymm x x))

by-order : (o : Ordering) (x y z : Bytes) → slice_cmp nat_cmp z y ≡ o → is_lt o ≡ false → slice_cmp nat_cmp x y ≡ Less → slice_cmp nat_cmp x z ≡ Less
by-order Less x y z is not_less less = absurd (cc)
by-order Equal x y z is not_less less = subst (λ (t : Bytes). slice_cmp nat_cmp x t ≡ Less) (sym (exact_bytes z y is)) less
by-order Greater x y z is not_less less =
    nat_list_cmp_total.trans x y z less (nat_list_cmp_total.antisymm y z ∙ ap ordering_reverse is)

-- what is less than a text is less than all that are not less than that
less-through : (x y z : Bytes) → slice_cmp nat_cmp x y ≡ Less → is_lt (slice_cmp nat_cmp z y) ≡ false → slice_cmp nat_cmp x z ≡ Less
less-through x y z less not_less = by-order (slice_cmp nat_cmp z y) x y z refl not_less less

-- what is less than each text is none of them
none-below : (x y : Bytes) (ys : List Bytes) → slice_cmp nat_cmp x y ≡ Less → AllByRecursion (λ z. is_lt (slice_cmp nat_cmp z y) ≡ false) ys → occurs x ys ≡ 0
unfolding occurs
none-below x y [] less each = refl
none-below x y (z ∷ zs) less each =
    let f : Bytes → ℕ = λ t. tie (slice_cmp nat_cmp x t) in
    let step : sum_by f (z ∷ zs) ≡ f z + sum_by f zs = sum_by-cons f z zs in
    let head : f z ≡ 0 = ap tie (less-through x y z less each.0) in
    let rest : sum_by f zs ≡ 0 = none-below x y zs less each.1 in
    omega (arith, step, head, rest)

-- the first of a sorted list is not above any other
head-least : (x : Bytes) (xs : List Bytes) → IsSorted (slice_cmp nat_cmp) (x ∷ xs) → AllByRecursion (λ z. is_lt (slice_cmp nat_cmp z x) ≡ false) xs
head-least x xs up = recursion_from_All (λ z. is_lt (slice_cmp nat_cmp z x) ≡ false) xs
    (λ k d lt. sorted_far (λ a b. is_lt (slice_cmp nat_cmp a b)) (ranks_by nat_list_cmp_total (λ (t : Bytes). t)) (x ∷ xs) up 0 (suc k) d (omega arith) (omega (arith, lt)))

tail-sorted : (x : Bytes) (xs : List Bytes) → IsSorted (slice_cmp nat_cmp) (x ∷ xs) → IsSorted (slice_cmp nat_cmp) xs
tail-sorted x xs up = λ k d low lt.
    let next : suc k + 1 ≡ suc (k + 1) = omega arith in
    let inside : suc (k + 1) < suc (length xs) = omega (arith, lt) in
    rw next at (up (suc k) d (omega arith) (rw next inside))

less-absurd : (x y : Bytes) (xs ys : List Bytes) → slice_cmp nat_cmp x y ≡ Less → IsSorted (slice_cmp nat_cmp) (y ∷ ys)
    → occurs x (x ∷ xs) ≡ occurs x (y ∷ ys) → ⊥
unfolding occurs
less-absurd x y xs ys less up same =
    let f : Bytes → ℕ = λ t. tie (slice_cmp nat_cmp x t) in
    let step : sum_by f (y ∷ ys) ≡ f y + sum_by f ys = sum_by-cons f y ys in
    let head : f y ≡ 0 = ap tie less in
    let rest : sum_by f ys ≡ 0 = none-below x y ys less (head-least y ys up) in
    let more : sum_by f (x ∷ xs) ≡ 1 + sum_by f xs = once-more x xs in
    let both : sum_by f (x ∷ xs) ≡ sum_by f (y ∷ ys) = same in
    omega (arith, step, head, rest, more, both)

by-heads : (o : Ordering) (x y : Bytes) (xs ys : List Bytes) → slice_cmp nat_cmp x y ≡ o → IsSorted (slice_cmp nat_cmp) (x ∷ xs) → IsSorted (slice_cmp nat_cmp) (y ∷ ys)
    → ((z : Bytes) → occurs z (x ∷ xs) ≡ occurs z (y ∷ ys)) → x ≡ y
by-heads Less x y xs ys is up vp same = absurd (less-absurd x y xs ys is vp (same x))
by-heads Equal x y xs ys is up vp same = exact_bytes x y is
by-heads Greater x y xs ys is up vp same =
    absurd (less-absurd y x ys xs (nat_list_cmp_total.antisymm y x ∙ ap ordering_reverse is) up (sym (same y)))

-- the tails have each text as often
tails-same : (x : Bytes) (xs ys : List Bytes) → ((z : Bytes) → occurs z (x ∷ xs) ≡ occurs z (x ∷ ys)) → (z : Bytes) → occurs z xs ≡ occurs z ys
unfolding occurs
tails-same x xs ys same z =
    let f : Bytes → ℕ = λ t. tie (slice_cmp nat_cmp z t) in
    let left : sum_by f (x ∷ xs) ≡ f x + sum_by f xs = sum_by-cons f x xs in
    let right : sum_by f (x ∷ ys) ≡ f x + sum_by f ys = sum_by-cons f x ys in
    let both : sum_by f (x ∷ xs) ≡ sum_by f (x ∷ ys) = same z in
    omega (arith, left, right, both)

-- sorted lists that have each text as often are equal
counted-once : (xs ys : List Bytes) → IsSorted (slice_cmp nat_cmp) xs → IsSorted (slice_cmp nat_cmp) ys → ((z : Bytes) → occurs z xs ≡ occurs z ys) → xs ≡ ys
unfolding occurs
counted-once [] [] up vp same = refl
counted-once [] (y ∷ ys) up vp same = let more = once-more y ys in let at = same y in absurd (omega (arith, more, at))
counted-once (x ∷ xs) [] up vp same = let more = once-more x xs in let at = same x in absurd (omega (arith, more, at))
counted-once (x ∷ xs) (y ∷ ys) up vp same =
    let heads : x ≡ y = by-heads (slice_cmp nat_cmp x y) x y xs ys refl up vp same in
    let again : (z : Bytes) → occurs z (x ∷ xs) ≡ occurs z (x ∷ ys) = subst (λ (t : Bytes). (z : Bytes) → occurs z (x ∷ xs) ≡ occurs z (t ∷ ys)) (sym heads) same in
    ap (λ (t : Bytes). t ∷ xs) heads ∙ ap (λ (ts : List Bytes). y ∷ ts) (counted-once xs ys (tail-sorted x xs up) (tail-sorted y ys vp) (tails-same x xs ys again))

-- texts have one sorted order
pub sorted-once : (texts xs ys : List Bytes) → IsPermutation texts xs → IsSorted (slice_cmp nat_cmp) xs → IsPermutation texts ys → IsSorted (slice_cmp nat_cmp) ys → xs ≡ ys
unfolding occurs
sorted-once texts xs ys of_xs up of_ys vp =
    counted-once xs ys up vp (λ z. sum_by-IsPermutation (λ t. tie (slice_cmp nat_cmp z t)) texts xs of_xs ∙ sym (sum_by-IsPermutation (λ t. tie (slice_cmp nat_cmp z t)) texts ys of_ys))
