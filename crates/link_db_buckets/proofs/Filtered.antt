-- The bits of a filter, where one is set.
use Rattle.std.proofs.Common.{◌≡◌, ◌∙◌, ◌<◌, ◌*◌, ◌/◌, ◌%◌, ◌^◌, ◌⊎◌, inl, inr, ℕ, true, List, [], ◌∷◌, length, get_or, refl, sym, ap, set, arith}
use Rattle.std.specs.Prelude.{bit_or}
use Rattle.std.specs.Int.{bit_at, w64}
use Rattle.std.proofs.lemmas.Bool.{cases_eq, eq-eqb, eqb-true}
use Rattle.std.proofs.lemmas.List.{get_or-set_other, get_or-set_same, get_or_default, length-set}
use Rattle.std.proofs.lemmas.Nat.Bits.{bit_at_set_other, bit_at_set_same}
use Rattle.link_db_buckets.specs.Slots.{may_hold, slot_of}

-- the word in which the bit of a number is set
abbrev pub with_bit : ℕ → ℕ → ℕ
with_bit word number = bit_or word (1 * 2 ^ (number / 2 ^ 58) % 2 ^ 64)

-- a number whose bit is set may have come
held : (words : List ℕ) (number : ℕ) → bit_at (get_or words (slot_of (length words) number) 0) (number / 2 ^ 58) ≡ 1 → may_hold words number ≡ true
held [] number is = refl
held (word ∷ words) number is = eq-eqb (bit_at (get_or (word ∷ words) (slot_of (length (word ∷ words)) number) 0) (number / 2 ^ 58)) 1 is

-- the bit of a number that may have come is set
bit_held : (words : List ℕ) (number : ℕ) → 0 < length words → may_hold words number ≡ true → bit_at (get_or words (slot_of (length words) number) 0) (number / 2 ^ 58) ≡ 1
bit_held [] number some may = absurd (omega (arith, some))
bit_held (word ∷ words) number some may = eqb-true (bit_at (get_or (word ∷ words) (slot_of (length (word ∷ words)) number) 0) (number / 2 ^ 58)) 1 may

-- the number whose bit is set may have come
pub bit_added : (words : List ℕ) (at number word : ℕ) → at ≡ slot_of (length words) number → at < length words → number < 2 ^ 64 → may_hold (set words at (with_bit word number)) number ≡ true
bit_added words at number word is within small =
    let new : List ℕ = set words at (with_bit word number) in
    let same : length new ≡ length words = length-set words at (with_bit word number) in
    let there : slot_of (length new) number ≡ at = ap (λ k. slot_of k number) same ∙ sym is in
    let low : number / 2 ^ 58 < 64 = omega (arith, small) in
    let set_here : bit_at (with_bit word number) (number / 2 ^ 58) ≡ 1 = bit_at_set_same w64 word (number / 2 ^ 58) low in
    held new number (ap (λ k. bit_at (get_or new k 0) (number / 2 ^ 58)) there ∙ ap (λ k. bit_at k (number / 2 ^ 58)) (get_or-set_same words at (with_bit word number) 0 within) ∙ set_here)

-- and so may those that might before
pub bits_kept : (words : List ℕ) (at number word other : ℕ) → at < length words → word ≡ get_or words at word → number < 2 ^ 64 → may_hold words other ≡ true → may_hold (set words at (with_bit word number)) other ≡ true
bits_kept words at number word other within read small may =
    let new : List ℕ = set words at (with_bit word number) in
    let same : length new ≡ length words = length-set words at (with_bit word number) in
    let some : 0 < length words = omega (arith, within) in
    let old_bit = bit_held words other some may in
    let start : get_or new (slot_of (length new) other) 0 ≡ get_or new (slot_of (length words) other) 0 = ap (λ k. get_or new (slot_of k other) 0) same in
    held new other (ap (λ k. bit_at k (other / 2 ^ 58)) start ∙ by (cases_eq (slot_of (length words) other) at) (cases_eq (other / 2 ^ 58) (number / 2 ^ 58)) old_bit)
  where
    low : number / 2 ^ 58 < 64
    low = omega (arith, small)

    by : (slot_of (length words) other ≡ at) ⊎ (slot_of (length words) other ≡ at → ⊥) → (other / 2 ^ 58 ≡ number / 2 ^ 58) ⊎ (other / 2 ^ 58 ≡ number / 2 ^ 58 → ⊥) → bit_at (get_or words (slot_of (length words) other) 0) (other / 2 ^ 58) ≡ 1
        → bit_at (get_or (set words at (with_bit word number)) (slot_of (length words) other) 0) (other / 2 ^ 58) ≡ 1
    by (inr apart) c old = ap (λ k. bit_at k (other / 2 ^ 58)) (get_or-set_other words at (slot_of (length words) other) (with_bit word number) 0 apart) ∙ old
    by (inl here) (inl one) old =
        ap (λ k. bit_at (get_or (set words at (with_bit word number)) k 0) (other / 2 ^ 58)) here
        ∙ ap (λ k. bit_at k (other / 2 ^ 58)) (get_or-set_same words at (with_bit word number) 0 within)
        ∙ ap (bit_at (with_bit word number)) one
        ∙ bit_at_set_same w64 word (number / 2 ^ 58) low
    by (inl here) (inr two) old =
        ap (λ k. bit_at (get_or (set words at (with_bit word number)) k 0) (other / 2 ^ 58)) here
        ∙ ap (λ k. bit_at k (other / 2 ^ 58)) (get_or-set_same words at (with_bit word number) 0 within)
        ∙ bit_at_set_other w64 word (number / 2 ^ 58) low (other / 2 ^ 58) two
        ∙ ap (λ k. bit_at k (other / 2 ^ 58)) (read ∙ get_or_default words at word 0 within)
        ∙ ap (λ k. bit_at (get_or words k 0) (other / 2 ^ 58)) (sym here) ∙ old
