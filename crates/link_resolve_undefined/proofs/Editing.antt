-- Entries that are changed one after another are changed at once.
use Rattle.std.proofs.Common.{◌≡◌, ◌+◌, ◌<◌, ◌∙◌, ◌++◌, ℕ, List, [], ◌∷◌, Bool, true, false, cond, if◌then◌else◌, length, filter, slice_index, slice_set, refl, sym, ap, subst, arith, append_assoc, length-append, suc}
use Rattle.std.proofs.Math.Seq.{set-append_seam}
use Rattle.std.specs.List.{enumerate_from}
use Rattle.link_input.specs.Symbols.{Symbol}
use Rattle.link_rules.specs.Places.{each_from}
use Rattle.link_rules.specs.Undefined.{Numbered}
use Rattle.link_resolve_undefined.specs.Edited.{edited}

get-mid : (pre : List ℕ) (i t : ℕ) (us : List ℕ) → length pre ≡ i → slice_index (pre ++ t ∷ us) i ≡ t
get-mid pre i t us is = subst (λ n. slice_index (pre ++ t ∷ us) n ≡ t) is (at pre)
  where
    at : (ps : List ℕ) → slice_index (ps ++ t ∷ us) (length ps) ≡ t
    at [] = refl
    at (p ∷ ps) = at ps

set-mid : (pre : List ℕ) (i t v : ℕ) (us : List ℕ) → length pre ≡ i → slice_set (pre ++ t ∷ us) i v ≡ pre ++ v ∷ us
set-mid pre i t v us is = subst (λ n. slice_set (pre ++ t ∷ us) n v ≡ pre ++ v ∷ us) is (set-append_seam pre t us v)

-- a function of place and element gives one result for each element
pub length-each : {X Y : Type 0} (f : ℕ → X → Y) (i : ℕ) (xs : List X) → length (each_from f i xs) ≡ length xs
length-each f i [] = refl
length-each f i (x ∷ xs) = ap (λ n. suc n) (length-each f (i + 1) xs)

module _ (change : Numbered → ℕ → ℕ) (p : Numbered → Bool) (table : List ℕ) where
  -- the entry of a symbol, changed if it passes the test
  abbrev pub changed : ℕ → Symbol → ℕ
  changed i x = if p (i, x) then change (i, x) (slice_index table i) else slice_index table i

  step : (b : Bool) (i t : ℕ) (x : Symbol) (rest : List Numbered) (pre us : List ℕ) → slice_index table i ≡ t → length pre ≡ i
      → edited change (cond b ((i, x) ∷ rest) rest) (pre ++ t ∷ us) ≡ edited change rest (pre ++ (if b then change (i, x) (slice_index table i) else slice_index table i) ∷ us)
  step true i t x rest pre us here is =
      ap (edited change rest) ((λ j. slice_set (pre ++ t ∷ us) i (change (i, x) (get-mid pre i t us is j)))
      ∙ (set-mid pre i t (change (i, x) t) us is ∙ (λ j. pre ++ change (i, x) (sym here j) ∷ us)))
  step false i t x rest pre us here is = (λ j. edited change rest (pre ++ sym here j ∷ us))

  all-from : (xs : List Symbol) (i : ℕ) (pre ts more : List ℕ) → length pre ≡ i → length ts ≡ length xs → ((k : ℕ) → k < length ts → slice_index table (i + k) ≡ slice_index ts k)
      → edited change (filter p (enumerate_from i xs)) (pre ++ (ts ++ more)) ≡ pre ++ (each_from changed i xs ++ more)
  all-from [] i pre [] more is len same = refl
  all-from [] i pre (t ∷ ts) more is len same = absurd (omega (arith, len))
  all-from (x ∷ xs) i pre [] more is len same = absurd (omega (arith, len))
  all-from (x ∷ xs) i pre (t ∷ ts) more is len same =
      let entry = changed i x in
      let behind = each_from changed (i + 1) xs in
      let at : i + 0 ≡ i = omega arith in
      let first : slice_index table i ≡ t = subst (λ n. slice_index table n ≡ t) at (same 0 (omega arith)) in
      let next : (k : ℕ) → k < length ts → slice_index table (i + 1 + k) ≡ slice_index ts k =
      (λ k below. let e : i + suc k ≡ i + 1 + k = omega arith in subst (λ n. slice_index table n ≡ slice_index ts k) e (same (suc k) (omega (arith, below)))) in
      let grown : length (pre ++ entry ∷ []) ≡ i + 1 = omega (arith, is, length-append pre (entry ∷ [])) in
      step (p (i, x)) i t x (filter p (enumerate_from (i + 1) xs)) pre (ts ++ more) first is
      ∙ (ap (edited change (filter p (enumerate_from (i + 1) xs))) (sym (append_assoc pre (entry ∷ []) (ts ++ more)))
      ∙ (all-from xs (i + 1) (pre ++ entry ∷ []) ts more grown (omega (arith, len)) next
      ∙ append_assoc pre (entry ∷ []) (behind ++ more)))

  -- each symbol that passes the test has its entry changed, and what stands behind the entries stays
  pub edited-all : (xs : List Symbol) (more : List ℕ) → length table ≡ length xs → edited change (filter p (enumerate_from 0 xs)) (table ++ more) ≡ each_from changed 0 xs ++ more
  edited-all xs more len =
      all-from xs 0 [] table more refl len (λ k below. let e : k ≡ 0 + k = omega arith in subst (λ n. slice_index table n ≡ slice_index table k) e refl)
