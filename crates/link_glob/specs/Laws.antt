-- What holds of all patterns, and worked examples of what patterns mean.
use Rattle.std.specs.Prelude.{◌≡◌, ℕ, Bool, true, false, List, [], ◌∷◌, ◌||◌, if◌then◌else◌, Some, None, codes}
use Rattle.std.specs.List.{list_any}
use Rattle.link_glob.specs.declared.analyze.GlobPatternType.TheVariants.{Exact, EscapedExact, Star, NonStar}
use Rattle.link_glob.specs.declared.compile.Dialect.{Dialect}
use Rattle.link_glob.specs.declared.compile.Dialect.TheVariants.{Gnu, MachO}
use Rattle.link_glob.specs.Analyze.{is_backslash, is_star, is_other_special, pattern_type, unescaped}
use Rattle.link_glob.specs.Glob.{GlobToken, literal, one, any, class, glob_matches}
use Rattle.link_glob.specs.Grammar.{range, Spells, with_marks}
use Rattle.link_glob.specs.Reading.{tokens_of}

-- a byte that a pattern would read otherwise than as itself
abbrev pub is_special : ℕ → Bool
is_special byte = is_backslash byte || is_star byte || is_other_special byte

-- the bytes with a backslash before each that a pattern would read otherwise
abbrev pub escaped : List ℕ → List ℕ
escaped [] = []
escaped (byte ∷ rest) = if is_special byte then 92 ∷ byte ∷ escaped rest else byte ∷ escaped rest

-- A name that was escaped is compared as it was.
abbrev pub EscapingKeepsNames : Type 0
EscapingKeepsNames = (name : List ℕ) → unescaped (escaped name) ≡ name

-- It is compared exactly, and needs no backslash only where it has no special byte.
abbrev pub EscapingIsExact : Type 0
EscapingIsExact = (name : List ℕ) → pattern_type (escaped name) ≡ (if list_any is_special name then EscapedExact else Exact)

-- A text spells one pattern at most.
abbrev pub HasOnePattern : Type 0
HasOnePattern = (dialect : Dialect) (text : List ℕ) (p q : List GlobToken) → Spells dialect p text → Spells dialect q text → p ≡ q

-- A GNU pattern is a Mach-O pattern too.
abbrev pub GnuIsMachO : Type 0
GnuIsMachO = (text : List ℕ) (pattern : List GlobToken) → Spells Gnu pattern text → Spells MachO pattern text

-- How some patterns have to be compared.
abbrev pub KindExamples : Type 0
KindExamples =
    (pattern_type (codes "foo\\*bar") ≡ EscapedExact) × (pattern_type (codes "foo]") ≡ NonStar)
    × (pattern_type (codes "a\\*b*") ≡ Star) × (pattern_type (codes "foo") ≡ Exact)

-- Some patterns without their backslashes.
abbrev pub UnescapingExamples : Type 0
UnescapingExamples = (unescaped (codes "foo\\*bar") ≡ codes "foo*bar") × (unescaped (codes "a\\") ≡ codes "a\\")

-- The tokens of some texts, and texts that have none.
abbrev pub ReadingExamples : Type 0
ReadingExamples =
    (tokens_of Gnu (codes "a*?") ≡ Some (literal 97 ∷ any ∷ one ∷ []))
    × (tokens_of Gnu (codes "[!]a-d-]") ≡ Some (class true (range 93 93 ∷ range 97 100 ∷ range 45 45 ∷ []) ∷ []))
    × (tokens_of Gnu (codes "a**b") ≡ None)
    × (tokens_of Gnu (codes "a[") ≡ None)
    × (tokens_of MachO (codes "a**b") ≡ tokens_of Gnu (codes "a*b"))
    × (tokens_of MachO (codes "[]*]**") ≡ tokens_of Gnu (codes "[]*]*"))
    × (with_marks (codes "[^a[^]") ≡ codes "[!a[!]")

-- Names that fit some patterns, and names that do not.
abbrev pub MatchingExamples : Type 0
MatchingExamples =
    (glob_matches (any ∷ literal 97 ∷ any ∷ literal 98 ∷ []) (codes "xaab") ≡ true)
    × (glob_matches (any ∷ literal 97 ∷ []) (codes "ab") ≡ false)
    × (glob_matches (class true (range 97 99 ∷ []) ∷ []) (codes "b") ≡ false)
