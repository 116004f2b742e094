-- Reading a pattern byte by byte finds its kind.
use Rattle.std.proofs.Common.{◌≡◌, ℕ, ◌==◌, Bool, true, false, cond, List, [], ◌∷◌, refl, sym, ap, subst, ◌∙◌, inl, inr, ◌⊎◌}
use Rattle.std.specs.Prelude.{◌||◌, if◌then◌else◌}
use Rattle.std.specs.List.{list_any}
use Rattle.std.proofs.lemmas.Bool.{eqb-true}
use Rattle.link_glob.specs.declared.analyze.GlobPatternType.{GlobPatternType}
use Rattle.link_glob.specs.declared.analyze.GlobPatternType.TheVariants.{Exact, EscapedExact, Star, NonStar}
use Rattle.link_glob.specs.Analyze.{is_backslash, is_star, is_other_special, live_bytes, pattern_type}

-- a backslash makes an exact pattern an escaped one, and changes no other
abbrev pub with_escape : GlobPatternType → GlobPatternType
with_escape Exact = EscapedExact
with_escape EscapedExact = EscapedExact
with_escape Star = Star
with_escape NonStar = NonStar

-- the kind, where the bytes so far had the kind found; behind a backslash a byte counts for nothing
abbrev pub type_from : Bool → GlobPatternType → List ℕ → GlobPatternType
type_from escaped found [] = found
type_from true found (byte ∷ rest) = type_from false found rest
type_from false found (byte ∷ rest) =
    if byte == 42 then Star else
    (if byte == 92 then type_from true (with_escape found) rest else
    (if byte == 91 || byte == 93 || byte == 63 then type_from false NonStar rest else type_from false found rest))

-- the kind of all the bytes, where those before had the kind found
abbrev joined_type : GlobPatternType → List ℕ → GlobPatternType
joined_type found bytes =
    if list_any is_star (live_bytes bytes) then Star else
    (if list_any is_other_special (live_bytes bytes) then NonStar else
    (if list_any is_backslash bytes then with_escape found else found))

abbrev left_type : Bool → GlobPatternType → List ℕ → GlobPatternType
left_type false found bytes = joined_type found bytes
left_type true found [] = found
left_type true found (byte ∷ rest) = joined_type found rest

abbrev next_type : GlobPatternType → ℕ → List ℕ → GlobPatternType
next_type found byte rest =
    if byte == 42 then Star else
    (if byte == 92 then left_type true (with_escape found) rest else
    (if byte == 91 || byte == 93 || byte == 63 then joined_type NonStar rest else joined_type found rest))

is_or : (b : Bool) → (b ≡ true) ⊎ (b ≡ false)
is_or true = inl refl
is_or false = inr refl

live_plain : (byte : ℕ) (rest : List ℕ) → (byte == 92) ≡ false → live_bytes (byte ∷ rest) ≡ byte ∷ live_bytes rest
live_plain byte [] e = rw e refl
live_plain byte (next ∷ rest) e = rw e refl

escape_twice : (b : Bool) (found : GlobPatternType) → with_escape found ≡ cond b (with_escape (with_escape found)) (with_escape found)
escape_twice true Exact = refl
escape_twice true EscapedExact = refl
escape_twice true Star = refl
escape_twice true NonStar = refl
escape_twice false found = refl

both_same : {A : Type 0} (b : Bool) (x : A) → cond b x x ≡ x
both_same true x = refl
both_same false x = refl

at_backslash : (found : GlobPatternType) (rest : List ℕ) → joined_type found (92 ∷ rest) ≡ left_type true (with_escape found) rest
at_backslash found [] = refl
at_backslash found (byte ∷ rest) =
    ap (λ (k : GlobPatternType). cond (list_any is_star (live_bytes rest)) Star (cond (list_any is_other_special (live_bytes rest)) NonStar k)) (escape_twice (list_any is_backslash rest) found)

at_star : (found : GlobPatternType) (rest : List ℕ) → joined_type found (42 ∷ rest) ≡ Star
at_star found rest = rw (live_plain 42 rest refl) refl

at_special : (found : GlobPatternType) (byte : ℕ) (rest : List ℕ) → (byte == 42) ≡ false → (byte == 92) ≡ false → is_other_special byte ≡ true → joined_type found (byte ∷ rest) ≡ joined_type NonStar rest
at_special found byte rest star backslash special =
    rw (live_plain byte rest backslash, star, special, both_same (list_any is_backslash rest) NonStar, both_same (list_any is_other_special (live_bytes rest)) NonStar) refl

at_other : (found : GlobPatternType) (byte : ℕ) (rest : List ℕ) → (byte == 42) ≡ false → (byte == 92) ≡ false → is_other_special byte ≡ false → joined_type found (byte ∷ rest) ≡ joined_type found rest
at_other found byte rest star backslash special = rw (live_plain byte rest backslash, star, special, backslash) refl

at_byte : (found : GlobPatternType) (byte : ℕ) (rest : List ℕ) → joined_type found (byte ∷ rest) ≡ next_type found byte rest
at_byte found byte rest = elim (is_or (byte == 42)) [
  | inl star ↦ subst (λ (c : ℕ). joined_type found (c ∷ rest) ≡ next_type found c rest) (sym (eqb-true byte 42 star)) (at_star found rest)
  | inr star ↦ elim (is_or (byte == 92)) [
    | inl backslash ↦ subst (λ (c : ℕ). joined_type found (c ∷ rest) ≡ next_type found c rest) (sym (eqb-true byte 92 backslash)) (at_backslash found rest)
    | inr backslash ↦ elim (is_or (is_other_special byte)) [
      | inl special ↦ at_special found byte rest star backslash special ∙ sym (rw (star, backslash, special) refl)
      | inr special ↦ at_other found byte rest star backslash special ∙ sym (rw (star, backslash, special) refl)
    ]
  ]
]

-- what the rest gives, byte by byte, is what all its bytes give
read_type : (escaped : Bool) (found : GlobPatternType) (bytes : List ℕ) → type_from escaped found bytes ≡ left_type escaped found bytes
read_type true found [] = refl
read_type false found [] = refl
read_type true found (byte ∷ rest) = read_type false found rest
read_type false found (byte ∷ rest) =
    (rw (read_type true (with_escape found) rest, read_type false NonStar rest, read_type false found rest) refl) ∙ sym (at_byte found byte rest)

pub type_is : (bytes : List ℕ) → type_from false Exact bytes ≡ pattern_type bytes
type_is bytes = read_type false Exact bytes
