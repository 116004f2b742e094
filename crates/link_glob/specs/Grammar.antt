-- Which texts spell a pattern, as in the shell's patterns (POSIX, "Pattern Matching Notation"). A text is a list of
-- characters; a backslash, and a `]` outside a class, are characters like others.
use Rattle.std.specs.Prelude.{◌≡◌, ◌<◌, ℕ, length, Bool, true, false, List, [], ◌∷◌, ◌++◌, ◌==◌, ◌||◌, ◌&&◌, not, if◌then◌else◌, IsTrue}
use Rattle.std.specs.List.{list_all}
use Rattle.std.specs.Str.{chars, IsUtf8}
use Rattle.link_glob.specs.declared.compile.Dialect.{Dialect}
use Rattle.link_glob.specs.declared.compile.Dialect.TheVariants.{Gnu, MachO}
use Rattle.link_glob.specs.declared.pattern.CharRange.{CharRange}
use Rattle.link_glob.specs.Glob.{GlobToken, literal, one, any, class}

-- a range by its ends
abbrev pub range : ℕ → ℕ → CharRange
range a b = record { first = a; last = b }

-- from left to right three characters `a-b` are a range, and any other character is itself
abbrev pub ranges_of : List ℕ → List CharRange
ranges_of [] = []
ranges_of (a ∷ []) = range a a ∷ []
ranges_of (a ∷ b ∷ []) = range a a ∷ ranges_of (b ∷ [])
ranges_of (a ∷ b ∷ c ∷ rest) = if b == 45 then range a c ∷ ranges_of rest else range a a ∷ ranges_of (b ∷ c ∷ rest)

-- outside a class every character but `*`, `?` and `[` is itself
abbrev pub is_plain : ℕ → Bool
is_plain c = not (c == 42 || c == 63 || c == 91)

-- what a class begins with, negated or not
abbrev pub opening : Bool → List ℕ
opening true = 91 ∷ 33 ∷ []
opening false = 91 ∷ []

-- The first character never ends a class, even a `]`; behind it there is none. A `!` there would negate.
abbrev pub IsContent : Bool → List ℕ → Type 0
IsContent negated [] = ⊥
IsContent true (first ∷ more) = IsTrue (list_all (λ c. not (c == 93)) more)
IsContent false (first ∷ more) = IsTrue (not (first == 33)) × IsTrue (list_all (λ c. not (c == 93)) more)

-- The text spells the one token.
abbrev pub IsSpelling : Dialect → GlobToken → List ℕ → Type 0
IsSpelling dialect (literal c) text = (text ≡ c ∷ []) × IsTrue (is_plain c)
IsSpelling dialect one text = text ≡ 63 ∷ []
IsSpelling Gnu any text = text ≡ 42 ∷ []
IsSpelling MachO any text = (0 < length text) × IsTrue (list_all (λ c. c == 42) text)
IsSpelling dialect (class negated ranges) text =
    (content : List ℕ) × (text ≡ opening negated ++ content ++ 93 ∷ []) × IsContent negated content × (ranges ≡ ranges_of content)

-- No star stands behind a star.
abbrev pub MayPrecede : GlobToken → List ℕ → Type 0
MayPrecede any (c ∷ rest) = IsTrue (not (c == 42))
MayPrecede token rest = Unit {0}

-- The text spells these tokens, one after the other.
abbrev pub Spells : Dialect → List GlobToken → List ℕ → Type 0
Spells dialect [] text = text ≡ []
Spells dialect (token ∷ tokens) text =
    (front : List ℕ) × (rest : List ℕ) × (text ≡ front ++ rest) × IsSpelling dialect token front × MayPrecede token rest × Spells dialect tokens rest

-- each `[^` is read as `[!`, wherever it stands
abbrev pub with_marks : List ℕ → List ℕ
with_marks [] = []
with_marks (c ∷ []) = c ∷ []
with_marks (c ∷ next ∷ rest) = if c == 91 && next == 94 then c ∷ 33 ∷ with_marks rest else c ∷ with_marks (next ∷ rest)

-- These bytes are the text of this pattern.
abbrev pub IsPatternText : Dialect → List ℕ → List GlobToken → Type 0
IsPatternText dialect bytes tokens = IsUtf8 bytes × Spells dialect tokens (with_marks (chars bytes))
