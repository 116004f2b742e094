-- Parts of a list of symbols with their ids.
use Rattle.std.proofs.Common.{◌≡◌, ◌+◌, ◌<◌, ◌≤◌, ◌^◌, ◌∙◌, ◌⊎◌, ℕ, zero, suc, Bool, true, false, List, [], ◌∷◌, nat_le, min, inl, inr, length, refl, sym, ap, arith, drop, take}
use Rattle.std.specs.Prelude.{◌-◌}
use Rattle.std.specs.List.{enumerate_from}
use Rattle.std.proofs.lemmas.Bool.Decides.{nat_tests}
use Rattle.link_db_symbols.specs.Walk.{SymbolsLeft, part_of, with_ids}

module _ {X : Type 0} where
  -- those behind the first ones keep their numbers
  enumerate-drop : (n k : ℕ) (xs : List X) → enumerate_from (n + k) (drop k xs) ≡ drop k (enumerate_from n xs)
  enumerate-drop n zero xs = let same : n + 0 ≡ n = omega arith in ap (λ m. enumerate_from m xs) same
  enumerate-drop n (suc k) [] = refl
  enumerate-drop n (suc k) (x ∷ xs) =
      let same : n + suc k ≡ n + 1 + k = omega arith in
      ap (λ m. enumerate_from m (drop k xs)) same ∙ enumerate-drop (n + 1) k xs

  -- and so do the first ones
  enumerate-take : (n k : ℕ) (xs : List X) → enumerate_from n (take k xs) ≡ take k (enumerate_from n xs)
  enumerate-take n zero xs = refl
  enumerate-take n (suc k) [] = refl
  enumerate-take n (suc k) (x ∷ xs) = ap (λ l. (n, x) ∷ l) (enumerate-take (n + 1) k xs)

  -- behind the end there is nothing
  drop-past : (n : ℕ) (xs : List X) → length xs ≤ n → drop n xs ≡ []
  drop-past zero [] past = refl
  drop-past zero (x ∷ xs) past = absurd (omega arith)
  drop-past (suc n) [] past = refl
  drop-past (suc n) (x ∷ xs) past = drop-past n xs (omega arith)

  -- as many as there are, and more
  take-past : (n m : ℕ) (xs : List X) → length xs ≤ n → length xs ≤ m → take n xs ≡ take m xs
  take-past zero zero xs past more = refl
  take-past zero (suc m) [] past more = refl
  take-past zero (suc m) (x ∷ xs) past more = absurd (omega arith)
  take-past (suc n) zero [] past more = refl
  take-past (suc n) zero (x ∷ xs) past more = absurd (omega arith)
  take-past (suc n) (suc m) [] past more = refl
  take-past (suc n) (suc m) (x ∷ xs) past more = ap (λ l. x ∷ l) (take-past n m xs (omega arith) (omega arith))

  -- how many are left behind the first ones
  left-behind : (n : ℕ) (xs : List X) → length (drop n xs) ≡ length xs - n
  left-behind zero xs = omega arith
  left-behind (suc n) [] = omega arith
  left-behind (suc n) (x ∷ xs) = let rest = left-behind n xs in omega arith

  -- a part that is cut within a list is that which begins and ends beyond it
  pub part-is : (xs : List X) (at size start end : ℕ)
      → ((start ≡ at) × (at ≤ length xs)) ⊎ ((start ≡ length xs) × (length xs ≤ at))
      → ((end ≡ start + size) × (start + size ≤ length xs)) ⊎ ((end ≡ length xs) × (length xs ≤ start + size))
      → take (end - start) (drop start xs) ≡ take size (drop at xs)
  part-is xs at size start end begins ends = elim begins [
    | inl inside ↦ elim ends [
      | inl whole ↦
          let count : end - start ≡ size = omega (arith, whole.0) in
          ap (λ n. take n (drop start xs)) count ∙ ap (λ n. take size (drop n xs)) inside.0
      | inr short ↦
          let rest = left-behind start xs in
          take-past (end - start) size (drop start xs) (omega (arith, short.0, short.1, rest)) (omega (arith, short.0, short.1, rest)) ∙ ap (λ n. take size (drop n xs)) inside.0
    ]
    | inr past ↦
        ap (take (end - start)) (drop-past start xs (omega (arith, past.0)))
        ∙ (take-past (end - start) size [] (omega arith) (omega arith)
        ∙ sym (ap (take size) (drop-past at xs (omega (arith, past.1)))))
  ]

-- the symbols of a part, with their ids
pub part-with-ids : (o : SymbolsLeft) (start count : ℕ) → with_ids (part_of o start count) ≡ take count (drop start (with_ids o))
part-with-ids o start count =
    enumerate-take (o.next + start) count (drop start o.left) ∙ ap (take count) (enumerate-drop o.next start o.left)

-- where a part begins and ends, by the least of what is asked for and what there is
pub part-cut : {X : Type 0} (xs : List X) (at size n from start to end : ℕ) → length xs ≡ n → n < 2 ^ 64 → from ≡ min at 18446744073709551615 → start ≡ min from n
    → to ≡ min (start + size) 18446744073709551615 → end ≡ min to n → take (end - start) (drop start xs) ≡ take size (drop at xs)
part-cut xs at size n from start to end long fits from_is start_is to_is end_is = part-is xs at size start end (begins (nat_le at n) refl) (ends (nat_le (start + size) n) refl)
  where
    begins : (b : Bool) → nat_le at n ≡ b → ((start ≡ at) × (at ≤ length xs)) ⊎ ((start ≡ length xs) × (length xs ≤ at))
    begins true e = let le : at ≤ n = grind (arith, nat_tests) in inl (omega (arith, le, long, fits, from_is, start_is), omega (arith, le, long))
    begins false e = let gt : n < at = grind (arith, nat_tests) in inr (omega (arith, gt, long, fits, from_is, start_is), omega (arith, gt, long))

    ends : (b : Bool) → nat_le (start + size) n ≡ b → ((end ≡ start + size) × (start + size ≤ length xs)) ⊎ ((end ≡ length xs) × (length xs ≤ start + size))
    ends true e = let le : start + size ≤ n = grind (arith, nat_tests) in inl (omega (arith, le, long, fits, to_is, end_is), omega (arith, le, long))
    ends false e = let gt : n < start + size = grind (arith, nat_tests) in inr (omega (arith, gt, long, fits, to_is, end_is), omega (arith, gt, long))
