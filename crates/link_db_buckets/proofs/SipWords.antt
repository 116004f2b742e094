-- The words of a message: what the code reads of its last bytes is their number.
use Rattle.std.proofs.Common.{◌≡◌, ◌∙◌, ℕ, zero, suc, ◌+◌, ◌-◌, ◌*◌, ◌/◌, ◌^◌, ◌<◌, ◌≤◌, List, [], ◌∷◌, length, take, drop, map, fold, get_or, arith, refl, ap, pow-add}
use Rattle.std.specs.Int.{w64, from_le_bytes}
use Rattle.std.specs.Simd.{first_chunks}
use Rattle.std.proofs.Math.Nat.{div-div-eq-div-mul}
use Rattle.std.proofs.lemmas.List.{get_or_past, get_or-map, length-map, take_all}
use Rattle.std.proofs.lemmas.List.Sums.{fold_more, fold_push}
use Rattle.link_db_buckets.specs.SipHash.{sip_start, absorb, last_word, sip_finish, sip_hash}
use Rattle.link_db_buckets.specs.declared.sip_hash.SipState.{SipState}

-- each of the numbers is that of a byte
abbrev pub AreBytes : List ℕ → Type 0
AreBytes bs = (i : ℕ) → get_or bs i 0 < 256

-- the number of a byte and at most seven behind it
pub le_front : (b : ℕ) (bs : List ℕ) → length bs < 8 → from_le_bytes w64 (b ∷ bs) ≡ b + 256 * from_le_bytes w64 bs
le_front b bs short =
    let past : get_or bs 7 0 ≡ 0 = get_or_past bs 7 0 (omega arith) in
    omega (arith, past)

-- a shift takes the lowest bytes away
pub le_drop : (k : ℕ) (bs : List ℕ) → AreBytes bs → length bs ≤ 8 → from_le_bytes w64 bs / 2 ^ (8 * k) ≡ from_le_bytes w64 (drop k bs)
le_drop zero bs each short = omega arith
le_drop (suc k) [] each short = omega arith
le_drop (suc k) (b ∷ bs) each short =
    let one : from_le_bytes w64 (b ∷ bs) / 2 ^ 8 ≡ from_le_bytes w64 bs = omega (arith, le_front b bs (omega arith), each 0) in
    let more : 8 * suc k ≡ 8 + 8 * k = omega arith in
    let split : 2 ^ (8 * suc k) ≡ 2 ^ 8 * 2 ^ (8 * k) = ap (λ (n : ℕ). 2 ^ n) more ∙ pow-add 2 8 (8 * k) in
    rw (split, ← div-div-eq-div-mul, one) (le_drop k bs (λ i. each (suc i)) (omega arith))

-- the number of the last r of eight bytes, by two shifts
pub le_behind : (r : ℕ) (bs : List ℕ) → AreBytes bs → length bs ≡ 8 → r < 8 → from_le_bytes w64 bs / 2 ^ (56 - 8 * r) / 2 ^ 8 ≡ from_le_bytes w64 (drop (8 - r) bs)
le_behind r bs each whole small =
    let more : 8 * (8 - r) ≡ 56 - 8 * r + 8 = omega arith in
    let split : 2 ^ (8 * (8 - r)) ≡ 2 ^ (56 - 8 * r) * 2 ^ 8 = ap (λ (n : ℕ). 2 ^ n) more ∙ pow-add 2 (56 - 8 * r) 8 in
    div-div-eq-div-mul _ _ _ ∙ rw (← split) (le_drop (8 - r) bs each (omega arith))

-- a loop over the whole words of a message, with one word more
pub absorbed_more : (s : SipState) (chunks : List (List ℕ)) (i : ℕ) (d : List ℕ) → i < length chunks
    → fold absorb s (take (i + 1) (map (from_le_bytes w64) chunks)) ≡ absorb (fold absorb s (take i (map (from_le_bytes w64) chunks))) (from_le_bytes w64 (get_or chunks i d))
absorbed_more s chunks i d within =
    let here : i < length (map (from_le_bytes w64) chunks) = rw length-map within in
    fold_more absorb s (map (from_le_bytes w64) chunks) i 0 here ∙ rw (get_or-map (from_le_bytes w64) chunks i d 0 within) refl

-- the number of a message, where its whole words and then its last word are absorbed
pub sip_hash_of : (k0 k1 : ℕ) (m : List ℕ) (chunks : List (List ℕ)) (i : ℕ) (s : SipState) → chunks ≡ first_chunks 8 (length m / 8) m → length chunks ≤ i
    → s ≡ fold absorb (sip_start k0 k1) (take i (map (from_le_bytes w64) chunks)) → sip_finish (absorb s (last_word m)) ≡ sip_hash k0 k1 m
unfolding sip_hash
sip_hash_of k0 k1 m chunks i s front all so_far =
    let words : List ℕ = map (from_le_bytes w64) chunks in
    let over : take i words ≡ words = take_all i words (rw length-map all) in
    let state : s ≡ fold absorb (sip_start k0 k1) words = so_far ∙ ap (fold absorb (sip_start k0 k1)) over in
    rw (state, ← fold_push absorb (sip_start k0 k1) words (last_word m), front) refl
