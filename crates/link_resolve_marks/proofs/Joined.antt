-- Flags joined with marks, one after another.
use Rattle.std.proofs.Common.{◌≡◌, ◌∙◌, ◌+◌, ◌<◌, ◌≤◌, ◌==◌, ℕ, zero, suc, List, [], ◌∷◌, ◌++◌, refl, sym, ap, subst, arith, length, slice_set, bit_or, inl, inr, if◌then◌else◌}
use Rattle.std.specs.Prelude.{slice_index_or}
use Rattle.std.specs.Int.Bits.{or_zero_l, or_zero_r}
use Rattle.std.proofs.lemmas.Bool.Decides.{eqb_tells, nat_tests}
use Rattle.std.proofs.lemmas.List.{length-map}
use Rattle.link_closure.proofs.Joins.{or_assoc}
use Rattle.link_closure.specs.Workload.{bits_for}
use Rattle.link_closure.specs.declared.workload.Mark.{Mark}
use Rattle.link_flags.specs.FlagWords.{numbers_of}
use Rattle.link_flags.specs.declared.value_flags.RawFlags.{RawFlags}
use Rattle.link_rules.specs.Places.{each_from}
use Rattle.link_resolve_marks.specs.Marks.{mark_on, with_marks}

-- the bits of two lists of marks are those of each, joined
pub bits-of-both : (s : ℕ) (a b : List Mark) → bits_for s (a ++ b) ≡ bit_or (bits_for s a) (bits_for s b)
bits-of-both s [] b = sym (or_zero_l (bits_for s b))
bits-of-both s (m ∷ a) b =
    let own = if m.symbol == s then m.bits else 0 in
    ap (bit_or own) (bits-of-both s a b) ∙ sym (or_assoc own (bits_for s a) (bits_for s b))

-- a symbol's flags joined with its marks
abbrev pub joined : List Mark → ℕ → ℕ → ℕ
joined marks s old = bit_or old (bits_for s marks)

-- no marks change nothing
joined-none : (i : ℕ) (flags : List ℕ) → each_from (joined []) i flags ≡ flags
joined-none i [] = refl
joined-none i (old ∷ flags) = ap (λ n. n ∷ each_from (joined []) (i + 1) flags) (or_zero_r old) ∙ ap (λ rest. old ∷ rest) (joined-none (i + 1) flags)

-- marks of one list, and then of another
joined-both : (a b : List Mark) (i : ℕ) (flags : List ℕ) → each_from (joined b) i (each_from (joined a) i flags) ≡ each_from (joined (a ++ b)) i flags
joined-both a b i [] = refl
joined-both a b i (old ∷ flags) =
    let one : joined b i (joined a i old) ≡ joined (a ++ b) i old = or_assoc old (bits_for i a) (bits_for i b) ∙ sym (ap (bit_or old) (bits-of-both i a b)) in
    ap (λ n. n ∷ each_from (joined b) (i + 1) (each_from (joined a) (i + 1) flags)) one
    ∙ ap (λ rest. joined (a ++ b) i old ∷ rest) (joined-both a b (i + 1) flags)

-- no marks change nothing
pub marked-none : (flags : List ℕ) → with_marks [] flags ≡ flags
marked-none = joined-none 0

-- marks of one list, and then of another
pub marked-both : (a b : List Mark) (flags : List ℕ) → with_marks b (with_marks a flags) ≡ with_marks (a ++ b) flags
marked-both a b = joined-both a b 0

-- a mark on a symbol before all of these changes none
marked-before : (t bits i : ℕ) (flags : List ℕ) → t < i → each_from (joined (mark_on t bits ∷ [])) i flags ≡ flags
marked-before t bits i [] lt = refl
marked-before t bits i (old ∷ flags) lt = elim (eqb_tells t i) [
  | inl told ↦ absurd (omega (told.1, arith))
  | inr told ↦ rw (told.0, or_zero_r old) (ap (λ rest. old ∷ rest) (marked-before t bits (i + 1) flags (omega arith)))
]

-- one mark changes the word of its symbol
marked-at : (i at bits : ℕ) (words : List RawFlags) (w d : RawFlags) → at < length words → w.0 ≡ bit_or (slice_index_or words at d).0 bits
    → numbers_of (slice_set words at w) ≡ each_from (joined (mark_on (i + at) bits ∷ [])) i (numbers_of words)
marked-at i at bits [] w d lt is = absurd (omega arith)
marked-at i zero bits (x ∷ words) w d lt is = grind (arith, nat_tests, or_zero_r bits, marked-before i bits (i + 1) (numbers_of words) (omega arith))
marked-at i (suc at) bits (x ∷ words) w d lt is =
    let same : i + 1 + at ≡ i + suc at = omega arith in
    grind (arith, nat_tests, or_zero_r x.0, marked-at (i + 1) at bits words w d (omega arith) is)

-- a mark on a symbol behind all of these changes none
marked-behind : (t bits i : ℕ) (flags : List ℕ) → i + length flags ≤ t → each_from (joined (mark_on t bits ∷ [])) i flags ≡ flags
marked-behind t bits i [] le = refl
marked-behind t bits i (old ∷ flags) le = elim (eqb_tells t i) [
  | inl told ↦ absurd (omega (told.1, arith))
  | inr told ↦ rw (told.0, or_zero_r old) (ap (λ rest. old ∷ rest) (marked-behind t bits (i + 1) flags (omega arith)))
]

-- one mark changes the word of its symbol, and no other
pub marked-one : (at bits : ℕ) (words : List RawFlags) (w d : RawFlags) → at < length words → w.0 ≡ bit_or (slice_index_or words at d).0 bits
    → numbers_of (slice_set words at w) ≡ with_marks (mark_on at bits ∷ []) (numbers_of words)
marked-one at bits words w d lt is =
    let same : 0 + at ≡ at = omega arith in
    subst (λ k. numbers_of (slice_set words at w) ≡ with_marks (mark_on k bits ∷ []) (numbers_of words)) same (marked-at 0 at bits words w d lt is)

-- a symbol without a word is not marked
pub marked-beyond : (t bits : ℕ) (words : List RawFlags) → length words ≤ t → numbers_of words ≡ with_marks (mark_on t bits ∷ []) (numbers_of words)
marked-beyond t bits words le = sym (marked-behind t bits 0 (numbers_of words) (rw length-map (omega arith)))
