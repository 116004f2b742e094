-- The first difference of two lists.
use Rattle.std.specs.Prelude.{nat_lt}
use Rattle.std.proofs.lemmas.Bool.{ltb-false, ltb-true}
use Rattle.std.proofs.Common.{◌≡◌, ◌<◌, ◌≤◌, ℕ, zero, suc, Bool, true, false, List, [], ◌∷◌, Some, None, length, slice_get, refl, sym, ap, arith, ◌∙◌}

-- behind the end of a list nothing stands
pub past : {X : Type 0} (xs : List X) (i : ℕ) → length xs ≤ i → slice_get xs i ≡ None
past [] i le = refl
past (x ∷ xs) zero le = absurd (omega (arith, le))
past (x ∷ xs) (suc i) le = past xs i (omega (arith, le))

-- before it something does
pub there : {X : Type 0} (xs : List X) (i : ℕ) → i < length xs → (x : X) × (slice_get xs i ≡ Some x)
there [] i lt = absurd (omega (arith, lt))
there (x ∷ xs) zero lt = (x, refl)
there (x ∷ xs) (suc i) lt = there xs i (omega (arith, lt))

-- lists that agree at each place are the same
pub same-lists : {X : Type 0} (xs ys : List X) → ((j : ℕ) → slice_get xs j ≡ slice_get ys j) → xs ≡ ys
same-lists [] [] same = refl
same-lists [] (y ∷ ys) same = absurd (let first = same zero in cc)
same-lists (x ∷ xs) [] same = absurd (let first = same zero in cc)
same-lists (x ∷ xs) (y ∷ ys) same =
    let head : x ≡ y = by (same zero) in
    ap (λ z. z ∷ xs) head ∙ ap (λ l. y ∷ l) (same-lists xs ys (λ j. same (suc j)))
  where
    by : Some x ≡ Some y → x ≡ y
    by e = cc

-- so are lists that agree up to the end of one, which is no shorter than the other
pub ended-alike : {X : Type 0} (xs ys : List X) (n : ℕ) → length xs ≤ n → length ys ≤ length xs → ((j : ℕ) → j < n → slice_get xs j ≡ slice_get ys j) → xs ≡ ys
ended-alike {X} xs ys n all none same = same-lists xs ys (λ j. by j (nat_lt j n) refl)
  where
    by : (j : ℕ) (b : Bool) → nat_lt j n ≡ b → slice_get xs j ≡ slice_get ys j
    by j true is = same j (ltb-true j n is)
    by j false is = let behind = ltb-false j n is in past xs j (omega (arith, behind, all)) ∙ sym (past ys j (omega (arith, behind, all, none)))
