-- Which names the rules of a version fit, and the strongest match as the passes over the versions find it.
use Rattle.std.specs.Prelude.{ℕ, List, [], ◌∷◌, Bool, false, not, ◌||◌, ◌==◌, if◌then◌else◌, zero, suc, length, slice_get, Option, Some, None}
use Rattle.std.specs.Str.{chars}
use Rattle.link_glob.specs.Glob.{GlobToken, does_match}
use Rattle.link_script.specs.declared.rules.BasicMatchRules.{BasicMatchRules}
use Rattle.link_script.specs.declared.rules.MatchRules.{MatchRules}
use Rattle.link_script.specs.declared.rules.Version.{Version}
use Rattle.link_script.specs.declared.rules.Class.{Class}
use Rattle.link_script.specs.declared.rules.Class.TheVariants.{Exact, Nonstar, Star, Every}
use Rattle.link_script_syntax.specs.declared.body.Side.{Side}
use Rattle.link_script_syntax.specs.declared.body.Side.TheVariants.{Global, Local}
use Rattle.link_script.specs.Lookup.{Asked}
use Rattle.link_names.specs.Names.{Names, is_member}

abbrev pub has_glob : List (List GlobToken) → List ℕ → Bool
has_glob [] text = false
has_glob (glob ∷ globs) text = does_match glob text || has_glob globs text

abbrev pub exact_fits : Names → Option (List ℕ) → Bool
exact_fits names None = false
exact_fits names (Some name) = is_member names name

abbrev pub glob_fits : List (List GlobToken) → Option (List ℕ) → Bool
glob_fits globs None = false
glob_fits globs (Some text) = has_glob globs (chars text)

-- the globs of this class
abbrev pub globs_in : Class → BasicMatchRules → List (List GlobToken)
globs_in Nonstar rules = rules.nonstar_globs.items
globs_in Star rules = rules.star_globs.items
globs_in class rules = []

-- whether a pattern of this class fits the name
abbrev pub rules_fit : BasicMatchRules → Class → Option (List ℕ) → Option (List ℕ) → Bool
rules_fit rules Exact name text = exact_fits rules.exact name
rules_fit rules Nonstar name text = glob_fits rules.nonstar_globs.items text
rules_fit rules Star name text = glob_fits rules.star_globs.items text
rules_fit rules Every name text = rules.matches_all

-- whether there is a pattern of this class, or room for one
abbrev pub rules_have : Class → BasicMatchRules → Bool
rules_have Exact rules = not (length rules.exact == 0)
rules_have Nonstar rules = not (length rules.nonstar_globs.items == 0)
rules_have Star rules = not (length rules.star_globs.items == 0)
rules_have Every rules = rules.matches_all

-- whether one of the version's sections has one, in either language
abbrev pub version_has : Class → Version → Bool
version_has class v =
    (rules_have class v.version_body.globals.general || rules_have class v.version_body.globals.cxx)
    || (rules_have class v.version_body.locals.general || rules_have class v.version_body.locals.cxx)

-- patterns of plain names see the bytes, and those of C++ what is demangled
abbrev pub plain_fits : MatchRules → Class → Asked → Bool
plain_fits rules class a = rules_fit rules.general class (Some a.bytes) a.text

abbrev pub cxx_fits : MatchRules → Class → Asked → Bool
cxx_fits rules class a = rules_fit rules.cxx class a.demangled a.demangled

-- Exact matches look at all plain names first, other matches at all globals first.
abbrev pub side_in : Class → Version → Asked → Option Side
side_in Exact v a =
    if plain_fits v.version_body.globals Exact a then Some Global else
    (if plain_fits v.version_body.locals Exact a then Some Local else
    (if cxx_fits v.version_body.globals Exact a then Some Global else
    (if cxx_fits v.version_body.locals Exact a then Some Local else None)))
side_in class v a =
    if plain_fits v.version_body.globals class a || cxx_fits v.version_body.globals class a then Some Global else
    (if plain_fits v.version_body.locals class a || cxx_fits v.version_body.locals class a then Some Local else None)

abbrev pub placed : ℕ → Option Side → Option (ℕ × Side) → Option (ℕ × Side)
placed n None next = next
placed n (Some s) next = Some (n, s)

abbrev pub side_at : Class → Asked → Option Version → Option Side
side_at class a None = None
side_at class a (Some v) = side_in class v a

-- the first version with a match of this class
abbrev pub first_in : Class → Asked → ℕ → List Version → Option (ℕ × Side)
first_in class a n [] = None
first_in class a n (v ∷ versions) = placed n (side_in class v a) (first_in class a (suc n) versions)

-- the last version below n with a match of this class
abbrev pub last_in : Class → Asked → List Version → ℕ → Option (ℕ × Side)
last_in class a versions zero = None
last_in class a versions (suc n) = placed n (side_at class a (slice_get versions n)) (last_in class a versions n)

abbrev pub or_next : Option (ℕ × Side) → Option (ℕ × Side) → Option (ℕ × Side)
or_next None next = next
or_next (Some x) next = Some x

-- the strongest match
unfoldable pub best_match : List Version → Asked → Option (ℕ × Side)
best_match versions a =
    or_next (first_in Exact a 0 versions)
    (or_next (last_in Nonstar a versions (length versions))
    (or_next (last_in Star a versions (length versions))
    (last_in Every a versions (length versions))))
