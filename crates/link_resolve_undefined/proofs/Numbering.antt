-- Symbols by their ids.
use Rattle.std.proofs.Common.{◌≡◌, ◌+◌, ◌<◌, ◌≤◌, ℕ, List, [], ◌∷◌, All, Bool, true, false, Option, Some, None, length, map, filter, reverse, option_map, slice_get, refl, sym, ◌∙◌, ap, subst, cond, arith, zero, suc}
use mathlib.Core.List.{reverse_aux}
use Rattle.std.specs.List.{enumerate_from, cons_option}
use Rattle.std.specs.List.Sorted.{IsStrictlyIncreasing}
use Rattle.std.proofs.lemmas.List.Elements.{All-nil, All-cons}
use Rattle.std.proofs.lemmas.Option.{slice_get_within}
use Rattle.link_input.specs.Symbols.{Symbol}
use Rattle.link_rules.specs.Undefined.{Numbered}
use Rattle.link_resolve_undefined.specs.Records.{AreSome, numbered_at}

-- each of these is a symbol with its id
abbrev pub AreAt : List Symbol → List Numbered → Type 0
AreAt symbols [] = Unit {0}
AreAt symbols (u ∷ us) = (slice_get symbols u.0 ≡ Some u.1) × AreAt symbols us

-- symbols with their ids are found by these
pub numbered-at : (symbols : List Symbol) (us : List Numbered) → AreAt symbols us → numbered_at symbols (map (λ (u : Numbered). u.0) us) ≡ us
numbered-at symbols [] at = refl
numbered-at symbols (u ∷ us) at =
    (λ i. cons_option (option_map (λ x. (u.0, x)) (at.0 i)) (numbered_at symbols (map (λ (v : Numbered). v.0) us))) ∙ ap (λ (vs : List Numbered). u ∷ vs) (numbered-at symbols us at.1)

kept-at : (symbols : List Symbol) (u : Numbered) (us : List Numbered) (b : Bool) → slice_get symbols u.0 ≡ Some u.1 → AreAt symbols us → AreAt symbols (cond b (u ∷ us) us)
kept-at symbols u us true here at = (here, at)
kept-at symbols u us false here at = at

-- what passes a test is still so
pub filter-at : (symbols : List Symbol) (p : Numbered → Bool) (us : List Numbered) → AreAt symbols us → AreAt symbols (filter p us)
filter-at symbols p [] at = tt
filter-at symbols p (u ∷ us) at = kept-at symbols u (filter p us) (p u) at.0 (filter-at symbols p us at.1)

from-at : (symbols xs : List Symbol) (i : ℕ) → ((k : ℕ) → slice_get symbols (i + k) ≡ slice_get xs k) → AreAt symbols (enumerate_from i xs)
from-at symbols [] i same = tt
from-at symbols (x ∷ xs) i same =
    let first : i + 0 ≡ i = omega arith in
    let here : slice_get symbols i ≡ Some x = subst (λ n. slice_get symbols n ≡ Some x) first (same 0) in
    let behind : (k : ℕ) → slice_get symbols (i + 1 + k) ≡ slice_get xs k = (λ k. let e : i + suc k ≡ i + 1 + k = omega arith in subst (λ n. slice_get symbols n ≡ slice_get xs k) e (same (suc k))) in
    (here, from-at symbols xs (i + 1) behind)

-- all symbols with their ids are so
pub all-at : (symbols : List Symbol) → AreAt symbols (enumerate_from 0 symbols)
all-at symbols = from-at symbols symbols 0 (λ k. let e : k ≡ 0 + k = omega arith in subst (λ n. slice_get symbols n ≡ slice_get symbols k) e refl)

numbered-if : (symbols : List Symbol) (s : ℕ) (us : List Numbered) (o : Option Symbol) → slice_get symbols s ≡ o → AreAt symbols us → AreAt symbols (cons_option (option_map (λ x. (s, x)) o) us)
numbered-if symbols s us None is at = at
numbered-if symbols s us (Some x) is at = (is, at)

-- those of ids are so
pub numbered-are : (symbols : List Symbol) (ids : List ℕ) → AreAt symbols (numbered_at symbols ids)
numbered-are symbols [] = tt
numbered-are symbols (s ∷ ids) = numbered-if symbols s (numbered_at symbols ids) (slice_get symbols s) refl (numbered-are symbols ids)

reversed-at : (symbols : List Symbol) (us vs : List Numbered) → AreAt symbols us → AreAt symbols vs → AreAt symbols (reverse_aux us vs)
reversed-at symbols [] vs us-at vs-at = vs-at
reversed-at symbols (u ∷ us) vs us-at vs-at = reversed-at symbols us (u ∷ vs) us-at.1 (us-at.0, vs-at)

-- in reverse they are so too
pub reverse-at : (symbols : List Symbol) (us : List Numbered) → AreAt symbols us → AreAt symbols (reverse us)
reverse-at symbols us at = reversed-at symbols us [] at tt

-- their ids are those of symbols
pub ids-inside : (symbols : List Symbol) (us : List Numbered) → AreAt symbols us → All (λ s. s < length symbols) (map (λ (u : Numbered). u.0) us)
ids-inside symbols [] at = All-nil (λ s. s < length symbols)
ids-inside symbols (u ∷ us) at =
    All-cons (λ s. s < length symbols) u.0 (map (λ (v : Numbered). v.0) us) (slice_get_within symbols u.0 u.1 at.0) (ids-inside symbols us at.1)

-- numbers from one on and below another, in rising order
abbrev Climbs : ℕ → ℕ → List ℕ → Type 0
Climbs low high [] = Unit {0}
Climbs low high (x ∷ xs) = (low ≤ x) × ((x < high) × Climbs (x + 1) high xs)

climbs-lower : (low lower high : ℕ) (xs : List ℕ) → lower ≤ low → Climbs low high xs → Climbs lower high xs
climbs-lower low lower high [] le climbs = tt
climbs-lower low lower high (x ∷ xs) le climbs = (omega (arith, climbs.0), climbs.1)

climbs-inside : (low high : ℕ) (xs : List ℕ) → Climbs low high xs → All (λ s. s < high) xs
climbs-inside low high [] climbs = All-nil (λ s. s < high)
climbs-inside low high (x ∷ xs) climbs = All-cons (λ s. s < high) x xs climbs.1.0 (climbs-inside (x + 1) high xs climbs.1.1)

climbs-rising : (low high : ℕ) (xs : List ℕ) → Climbs low high xs → IsStrictlyIncreasing xs
climbs-rising low high [] climbs k below = absurd (omega (arith, below))
climbs-rising low high (x ∷ []) climbs k below = absurd (omega (arith, below))
climbs-rising low high (x ∷ y ∷ ys) climbs zero below = omega (arith, climbs.1.1.0)
climbs-rising low high (x ∷ y ∷ ys) climbs (suc k) below =
    let e : suc k + 1 ≡ suc (k + 1) = omega arith in
    rw e (climbs-rising (x + 1) high (y ∷ ys) climbs.1.1 k (omega (arith, below)))

climbs-if : (i high : ℕ) (u : Numbered) (us : List Numbered) (b : Bool) → u.0 ≡ i → i < high → Climbs (i + 1) high (map (λ (v : Numbered). v.0) us) → Climbs i high (map (λ (v : Numbered). v.0) (cond b (u ∷ us) us))
climbs-if i high u us true is below climbs =
    (omega (arith, is), (omega (arith, is, below), subst (λ n. Climbs (n + 1) high (map (λ (v : Numbered). v.0) us)) (sym is) climbs))
climbs-if i high u us false is below climbs = climbs-lower (i + 1) i high (map (λ (v : Numbered). v.0) us) (omega arith) climbs

climbs-from : (p : Numbered → Bool) (i high : ℕ) (xs : List Symbol) → i + length xs ≡ high → Climbs i high (map (λ (u : Numbered). u.0) (filter p (enumerate_from i xs)))
climbs-from p i high [] is = tt
climbs-from p i high (x ∷ xs) is =
    climbs-if i high (i, x) (filter p (enumerate_from (i + 1) xs)) (p (i, x)) refl (omega (arith, is)) (climbs-from p (i + 1) high xs (omega (arith, is)))

-- the ids of the symbols that pass a test rise
pub some-filtered : (p : Numbered → Bool) (symbols : List Symbol) → AreSome symbols (map (λ (u : Numbered). u.0) (filter p (enumerate_from 0 symbols)))
some-filtered p symbols =
    let climbs = climbs-from p 0 (length symbols) symbols (omega arith) in
    let ids = map (λ (u : Numbered). u.0) (filter p (enumerate_from 0 symbols)) in
    record { rising = climbs-rising 0 (length symbols) ids climbs; inside = climbs-inside 0 (length symbols) ids climbs }
