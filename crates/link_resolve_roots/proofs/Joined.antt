-- The lists of what was found, one after another, are what was found in the order of the root names.
use Rattle.std.proofs.Common.{◌≡◌, ℕ, zero, suc, ◌+◌, ◌<◌, ◌≤◌, ◌∙◌, List, [], ◌∷◌, ◌++◌, Option, None, get_or, length, refl, sym, ap, arith}
use Rattle.std.specs.List.{All, cons_option, flat_map, range_with_len, slice_get}
use Rattle.std.specs.Option.{option_and_then}
use Rattle.std.proofs.lemmas.Option.{slice_get_past}
use Rattle.link_rules.specs.declared.explanation.FoundRoot.{FoundRoot}
use Rattle.link_rules.specs.FoundRoots.{found_at, found_entries, found_for, found_roots, lasting_names}
use Rattle.link_rules.specs.Places.{Bytes}
use Rattle.link_rules.specs.World.{Stage}
use Rattle.link_resolve_roots.specs.Found.{AreFound, Found}

module _ {X : Type 0} (g : ℕ → List X) where
  -- a place further
  next : (a i : ℕ) → a + suc i ≡ a + 1 + i
  next a i = omega arith

  start : (a : ℕ) → a + 0 ≡ a
  start a = omega arith

  -- lists behind which nothing comes are as many as one likes
  joined : (lists : List (List X)) (a n : ℕ) → ((i : ℕ) → get_or lists i [] ≡ g (a + i)) → ((i : ℕ) → n ≤ i → g (a + i) ≡ [])
      → flat_map (λ l. l) lists ≡ flat_map g (range_with_len a n)
  joined [] a zero each none = refl
  joined [] a (suc n) each none =
      joined [] (a + 1) n (λ i. each (suc i) ∙ ap g (next a i)) (λ i past. sym (ap g (next a i)) ∙ none (suc i) (omega (arith, past)))
      ∙ ap (λ (l : List X). l ++ flat_map g (range_with_len (a + 1) n)) (each 0 ∙ ap g (start a))
  joined (l ∷ lists) a zero each none =
      ap (λ (m : List X). m ++ flat_map (λ l. l) lists) (each 0 ∙ none 0 (omega arith))
      ∙ joined lists (a + 1) zero (λ i. each (suc i) ∙ ap g (next a i)) (λ i past. sym (ap g (next a i)) ∙ none (suc i) (omega arith))
  joined (l ∷ lists) a (suc n) each none =
      ap (λ (m : List X). m ++ flat_map (λ l. l) lists) (each 0 ∙ ap g (start a))
      ∙ ap (λ (m : List X). g a ++ m)
      (joined lists (a + 1) n (λ i. each (suc i) ∙ ap g (next a i)) (λ i past. sym (ap g (next a i)) ∙ none (suc i) (omega (arith, past))))

-- nothing is found at a place that no stage has
found-past : (ws : List Stage) (count i : ℕ) → All (λ (v : Stage). length (lasting_names v) ≤ count) ws → count ≤ i → found_for ws i ≡ []
found-past [] count i few past = refl
found-past (v ∷ vs) count i few past =
    let first : 0 < length (v ∷ vs) = omega arith in
    let here : length (lasting_names v) ≤ count = few 0 v first in
    let none : slice_get (lasting_names v) i ≡ None = slice_get_past (lasting_names v) i (omega (arith, here, past)) in
    ap (λ (o : Option Bytes). cons_option (option_and_then (found_at v) o) (found_for vs i)) none
    ∙ found-past vs count i (λ k d lt. few (suc k) d (omega (arith, lt))) past

-- what was found, in the order of the root names of the last stage
pub in-order : (ws : List Stage) (w : Stage) (found : Found) → AreFound ws found → All (λ (v : Stage). length (lasting_names v) ≤ length (lasting_names w)) ws
    → found.entries ++ flat_map (λ l. l) found.others ≡ found_roots ws w
in-order ws w found are few =
    let same : (i : ℕ) → i ≡ 0 + i = λ i. omega arith in
    ap (λ (l : List FoundRoot). l ++ flat_map (λ m. m) found.others) are.entries_are
    ∙ ap (λ (l : List FoundRoot). found_entries ws ++ l)
    (joined (found_for ws) found.others 0 (length (lasting_names w)) (λ i. are.others_are i ∙ ap (found_for ws) (same i))
    (λ i past. ap (found_for ws) (sym (same i)) ∙ found-past ws (length (lasting_names w)) i few past))
