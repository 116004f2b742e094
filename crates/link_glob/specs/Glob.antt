-- What a glob is, and which names it fits. A name and a pattern are lists of characters.
use Rattle.std.specs.Prelude.{◌≡◌, ℕ, Bool, true, false, List, [], ◌∷◌, ◌==◌, ◌&&◌, ◌||◌, not, nat_le, IsTrue, map, drop}
use Rattle.link_glob.specs.declared.pattern.CharRange.{CharRange}
use Rattle.link_glob.specs.declared.pattern.Token.{Token}
use Rattle.link_glob.specs.declared.pattern.Token.TheVariants as tokens

-- A piece of a pattern: a character, `?`, `*`, or a class of characters.
pub data GlobToken : Type 0 where
  literal : (c : ℕ) → GlobToken
  one : GlobToken
  any : GlobToken
  class : (negated : Bool) (ranges : List CharRange) → GlobToken

-- a token without where it lies in memory
abbrev pub view_token : Token → GlobToken
view_token (tokens.Literal c) = literal c
view_token tokens.One = one
view_token tokens.Any = any
view_token (tokens.Class k) = class k.value.negated (k.value.first ∷ k.value.more.items)

-- tokens without where they lie in memory
abbrev pub views : List Token → List GlobToken
views ts = map view_token ts

-- whether the character lies in some range, its ends included
abbrev pub is_in_ranges : List CharRange → ℕ → Bool
is_in_ranges [] c = false
is_in_ranges (range ∷ ranges) c = (nat_le range.first c && nat_le c range.last) || is_in_ranges ranges c

-- whether a token that is no star takes this one character
abbrev pub takes : GlobToken → ℕ → Bool
takes (literal d) c = c == d
takes one c = true
takes any c = false
takes (class false ranges) c = is_in_ranges ranges c
takes (class true ranges) c = not (is_in_ranges ranges c)

-- The pattern fits the whole name: a star takes some front of it, any other token takes one character.
abbrev pub GlobMatches : List GlobToken → List ℕ → Type 0
GlobMatches [] name = name ≡ []
GlobMatches (any ∷ rest) name = (n : ℕ) × GlobMatches rest (drop n name)
GlobMatches (token ∷ rest) [] = ⊥
GlobMatches (token ∷ rest) (c ∷ name) = IsTrue (takes token c) × GlobMatches rest name

-- whether some end of the name passes
abbrev pub some_end : (List ℕ → Bool) → List ℕ → Bool
some_end p [] = p []
some_end p (c ∷ name) = p (c ∷ name) || some_end p name

-- the token takes the first character of the name, and the rest of the name passes
abbrev pub takes_first : GlobToken → (List ℕ → Bool) → List ℕ → Bool
takes_first token rest [] = false
takes_first token rest (c ∷ name) = takes token c && rest name

-- `GlobMatches` as a test
abbrev pub glob_matches : List GlobToken → List ℕ → Bool
glob_matches [] [] = true
glob_matches [] (c ∷ name) = false
glob_matches (any ∷ rest) name = some_end (λ n. glob_matches rest n) name
glob_matches (token ∷ rest) name = takes_first token (λ n. glob_matches rest n) name

-- the same, which a proof opens only where it says so
unfoldable pub does_match : List GlobToken → List ℕ → Bool
does_match pattern name = glob_matches pattern name
