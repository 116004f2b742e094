-- What stands before the first backslash is kept as it is.
use Rattle.std.proofs.Common.{◌≡◌, ℕ, zero, suc, ◌<◌, ◌==◌, Bool, true, false, List, [], ◌∷◌, length, take, drop, refl, ap, ◌∙◌, arith}
use Rattle.std.specs.Prelude.{slice_index}
use Rattle.std.proofs.lemmas.Bool.{eqb-true}
use Rattle.link_glob.specs.Analyze.{unescaped, IsEscapeAt}
use Rattle.link_glob.proofs.Escaping.{unescaped_plain}

-- no byte below place n is a backslash
abbrev pub NoneBelow : List ℕ → ℕ → Type 0
NoneBelow bytes n = (k : ℕ) → k < n → (slice_index bytes k == 92) ≡ true → ⊥

false_of : (b : Bool) → (b ≡ true → ⊥) → b ≡ false
false_of true never = absurd (never refl)
false_of false never = refl

first_plain : (byte : ℕ) (rest : List ℕ) (n : ℕ) → NoneBelow (byte ∷ rest) (suc n) → (byte == 92) ≡ false
first_plain byte rest n none = false_of (byte == 92) (none 0 (omega arith))

others_plain : (byte : ℕ) (rest : List ℕ) (n : ℕ) → NoneBelow (byte ∷ rest) (suc n) → NoneBelow rest n
others_plain byte rest n none = λ k lt e. none (suc k) (omega arith) e

pub unescaped_all : (bytes : List ℕ) → NoneBelow bytes (length bytes) → unescaped bytes ≡ bytes
unescaped_all [] none = refl
unescaped_all (byte ∷ rest) none =
    unescaped_plain byte rest (first_plain byte rest (length rest) none) ∙ ap (λ (xs : List ℕ). byte ∷ xs) (unescaped_all rest (others_plain byte rest (length rest) none))

pub escape_at : (k : ℕ) (bytes : List ℕ) → k < length bytes → (slice_index bytes k == 92) ≡ true → NoneBelow bytes k → IsEscapeAt bytes (take k bytes) (drop k bytes)
escape_at zero [] lt here none = absurd (omega arith)
escape_at (suc k) [] lt here none = absurd (omega arith)
escape_at zero (byte ∷ rest) lt here none = record {
  tail = rest;
  begins = ap (λ (b : ℕ). b ∷ rest) (eqb-true byte 92 here);
  whole = refl;
  plain = refl;
}
escape_at (suc k) (byte ∷ rest) lt here none =
    let s = escape_at k rest (omega arith) here (others_plain byte rest k none) in
    record {
      tail = s.tail;
      begins = s.begins;
      whole = ap (λ (xs : List ℕ). byte ∷ xs) s.whole;
      plain = unescaped_plain byte rest (first_plain byte rest k none) ∙ ap (λ (xs : List ℕ). byte ∷ xs) s.plain;
    }
