-- Room for patterns that are still to be added.
use Rattle.std.specs.Prelude.{ℕ, ◌+◌, ◌≤◌, Bool, true, false, IsTrue, List, [], ◌∷◌, Option, Some, None, count_by, vec_len, vec_capacity}
use Rattle.link_names.specs.Names.{Names, has_room}
use Rattle.link_script_syntax.specs.declared.matcher.SymbolMatcher.{SymbolMatcher}
use Rattle.link_script_syntax.specs.declared.matcher.SymbolMatcher.TheVariants as matchers
use Rattle.link_script.specs.declared.rules.BasicMatchRules.{BasicMatchRules}
use Rattle.link_script.specs.declared.rules.Class.{Class}
use Rattle.link_script.specs.declared.rules.Class.TheVariants.{Exact, Nonstar, Star, Every}

-- whether a pattern is kept with those of this class
abbrev pub is_of : Class → SymbolMatcher → Bool
is_of Exact (matchers.Exact n) = true
is_of Exact (matchers.EscapedExact n) = true
is_of Nonstar (matchers.NonstarGlob p) = true
is_of Star (matchers.StarGlob p) = true
is_of Every matchers.MatchesAll = true
is_of class matcher = false

-- how many of the patterns are
abbrev pub count_of : Class → List SymbolMatcher → ℕ
count_of class ms = count_by (is_of class) ms

-- the name of a pattern that is one name
abbrev pub exact_name : SymbolMatcher → Option (List ℕ)
exact_name (matchers.Exact n) = Some n
exact_name (matchers.EscapedExact n) = Some n
exact_name m = None

-- the name of this pattern, if it is one, is taken without memory
abbrev pub TakesName : Names → Option (List ℕ) → Type 0
TakesName names None = Unit {0}
TakesName names (Some n) = IsTrue (has_room names n)

-- the names among these patterns are
abbrev pub HasNameRoom : List SymbolMatcher → Names → Type 0
HasNameRoom [] names = Unit {0}
HasNameRoom (m ∷ ms) names = TakesName names (exact_name m) × HasNameRoom ms names

-- the rules take these patterns without more memory
abbrev pub HasRoom : List SymbolMatcher → BasicMatchRules → Type 0
HasRoom ms r = HasNameRoom ms r.exact × (vec_len r.nonstar_globs + count_of Nonstar ms ≤ vec_capacity r.nonstar_globs) × (vec_len r.star_globs + count_of Star ms ≤ vec_capacity r.star_globs)
