-- Escaping a name and reading it again.
use Rattle.std.proofs.Common.{◌≡◌, ℕ, Bool, true, false, List, [], ◌∷◌, refl, ap, ◌∙◌, inl, inr, ◌⊎◌}
use Rattle.std.specs.Prelude.{◌||◌}
use Rattle.std.specs.List.{list_any}
use Rattle.link_glob.specs.Analyze.{is_backslash, is_star, is_other_special, live_bytes, unescaped}
use Rattle.link_glob.specs.Laws.{is_special, escaped, EscapingKeepsNames, EscapingIsExact}

is_or : (b : Bool) → (b ≡ true) ⊎ (b ≡ false)
is_or true = inl refl
is_or false = inr refl

none_of : (a b c : Bool) → (a || b || c) ≡ false → (a ≡ false) × (b ≡ false) × (c ≡ false)
none_of true b c e = absurd cc
none_of false true c e = absurd cc
none_of false false true e = absurd cc
none_of false false false e = (refl, refl, refl)

pub unescaped_plain : (byte : ℕ) (rest : List ℕ) → is_backslash byte ≡ false → unescaped (byte ∷ rest) ≡ byte ∷ unescaped rest
unescaped_plain byte [] e = refl
unescaped_plain byte (next ∷ rest) e = rw e refl

live_plain : (byte : ℕ) (rest : List ℕ) → is_backslash byte ≡ false → live_bytes (byte ∷ rest) ≡ byte ∷ live_bytes rest
live_plain byte [] e = rw e refl
live_plain byte (next ∷ rest) e = rw e refl

pub keeps : EscapingKeepsNames
keeps [] = refl
keeps (byte ∷ rest) = elim (is_or (is_special byte)) [
  | inl special ↦ rw special (ap (λ (xs : List ℕ). byte ∷ xs) (keeps rest))
  | inr plain ↦
      let p = none_of (is_backslash byte) (is_star byte) (is_other_special byte) plain in
      rw plain (unescaped_plain byte (escaped rest) p.0 ∙ ap (λ (xs : List ℕ). byte ∷ xs) (keeps rest))
]

-- no byte of an escaped name that counts passes the test, where a test is of special bytes alone
none_live : (test : ℕ → Bool) → ((byte : ℕ) → is_special byte ≡ false → test byte ≡ false) → (name : List ℕ) → list_any test (live_bytes (escaped name)) ≡ false
none_live test plain_fails [] = refl
none_live test plain_fails (byte ∷ rest) = elim (is_or (is_special byte)) [
  | inl special ↦ rw special (none_live test plain_fails rest)
  | inr plain ↦
      let p = none_of (is_backslash byte) (is_star byte) (is_other_special byte) plain in
      rw (plain, live_plain byte (escaped rest) p.0, plain_fails byte plain) (none_live test plain_fails rest)
]

star_fails : (byte : ℕ) → is_special byte ≡ false → is_star byte ≡ false
star_fails byte e = (none_of (is_backslash byte) (is_star byte) (is_other_special byte) e).1

other_fails : (byte : ℕ) → is_special byte ≡ false → is_other_special byte ≡ false
other_fails byte e = (none_of (is_backslash byte) (is_star byte) (is_other_special byte) e).2

-- a backslash stands there exactly where a byte was special
has_backslash : (name : List ℕ) → list_any is_backslash (escaped name) ≡ list_any is_special name
has_backslash [] = refl
has_backslash (byte ∷ rest) = elim (is_or (is_special byte)) [
  | inl special ↦ rw special refl
  | inr plain ↦
      let p = none_of (is_backslash byte) (is_star byte) (is_other_special byte) plain in
      rw (plain, p.0) (has_backslash rest)
]

pub is_exact : EscapingIsExact
is_exact name = rw (none_live is_star star_fails name, none_live is_other_special other_fails name, has_backslash name) refl
