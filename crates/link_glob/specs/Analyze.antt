-- How a pattern has to be compared, and what it means without its backslashes. A pattern is a list of bytes.
use Rattle.std.specs.Prelude.{◌≡◌, ◌++◌, ℕ, Bool, List, [], ◌∷◌, ◌==◌, ◌||◌, if◌then◌else◌}
use Rattle.std.specs.List.{list_any}
use Rattle.link_glob.specs.declared.analyze.GlobPatternType.{GlobPatternType}
use Rattle.link_glob.specs.declared.analyze.GlobPatternType.TheVariants.{Exact, EscapedExact, Star, NonStar}

-- a backslash
abbrev pub is_backslash : ℕ → Bool
is_backslash byte = byte == 92

-- a star
abbrev pub is_star : ℕ → Bool
is_star byte = byte == 42

-- one of `[`, `]` and `?`
abbrev pub is_other_special : ℕ → Bool
is_other_special byte = byte == 91 || byte == 93 || byte == 63

-- the bytes that count: a backslash and the byte behind it do not
abbrev pub live_bytes : List ℕ → List ℕ
live_bytes [] = []
live_bytes (byte ∷ []) = if is_backslash byte then [] else byte ∷ []
live_bytes (byte ∷ next ∷ rest) = if is_backslash byte then live_bytes rest else byte ∷ live_bytes (next ∷ rest)

-- the most that a byte of the pattern asks for
abbrev pub pattern_type : List ℕ → GlobPatternType
pattern_type bytes =
    if list_any is_star (live_bytes bytes) then Star else
    (if list_any is_other_special (live_bytes bytes) then NonStar else
    (if list_any is_backslash bytes then EscapedExact else Exact))

-- each backslash is dropped, and the byte after it is kept; a last backslash stays
abbrev pub unescaped : List ℕ → List ℕ
unescaped [] = []
unescaped (byte ∷ []) = byte ∷ []
unescaped (byte ∷ next ∷ rest) = if is_backslash byte then next ∷ unescaped rest else byte ∷ unescaped (next ∷ rest)

-- The first backslash begins the back.
pub record IsEscapeAt (pattern front back : List ℕ) : Type 0 where
  pub tail : List ℕ
  pub begins : back ≡ 92 ∷ tail
  pub whole : pattern ≡ front ++ back
  pub plain : unescaped pattern ≡ front ++ unescaped back
