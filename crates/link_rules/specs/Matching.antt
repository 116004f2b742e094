-- What the text of a script says of a name: the strongest of all matches, the version, and whether a list has it.
use Rattle.std.specs.Prelude.{ℕ, ◌==◌, ◌&&◌, ◌||◌, List, [], ◌∷◌, ◌++◌, map, filter, Bool, true, false, Option, Some, None, nat_lt, nat_le, if◌then◌else◌, option_map, Result, Ok}
use Rattle.std.specs.Option.{option_map_or}
use Rattle.std.specs.List.{flat_map, list_any, enumerate_from}
use Rattle.std.specs.Str.{bytes_eq, chars}
use Rattle.link_glob.specs.Glob.{does_match}
use Rattle.link_script_syntax.specs.declared.body.Side.{Side}
use Rattle.link_script_syntax.specs.declared.body.Side.TheVariants.{Global, Local}
use Rattle.link_script_syntax.specs.declared.named.RawVersion.{RawVersion}
use Rattle.link_script_syntax.specs.declared.matcher.ParsedSymbolMatcher.{ParsedSymbolMatcher}
use Rattle.link_script_syntax.specs.declared.matcher.ParsedSymbolMatcher.TheVariants.{Single, Multiple, CxxMatchers}
use Rattle.link_script.specs.declared.rules.Class.{Class}
use Rattle.link_script.specs.declared.rules.Class.TheVariants.{Exact}
use Rattle.link_script_syntax.specs.declared.script.RawScript.{RawScript}
use Rattle.link_script.specs.Filter.{Filter, name, nonstar, star, every, filter_of, class_of}
use Rattle.link_script.specs.Lookup.{Asked, name_of, text_of}
use Rattle.link_script.specs.Rank.{Place, strength, side_order, exact_order}
use Rattle.link_script.specs.Script.{versions_in, of_rust_form}
use Rattle.link_script_syntax.specs.Named.{raw_names}
use Rattle.link_script.specs.VersionOf.{Undeclared, matched, is_local_match, declared_as, ver_ndx_global}
use Rattle.link_rules.specs.Places.{Bytes, places_from, last_of}

-- whether a pattern fits the name, or what it demangles to where it is one of C++
abbrev pub fits : Asked → Bool → Filter → Bool
fits a cxx (name n) = option_map_or (bytes_eq n) (name_of a cxx) false
fits a cxx (nonstar p) = option_map_or (λ t. does_match p (chars t)) (text_of a cxx) false
fits a cxx (star p) = option_map_or (λ t. does_match p (chars t)) (text_of a cxx) false
fits a cxx every = true

-- the patterns of an entry, each with whether it is one of C++
abbrev pub patterns_of : ParsedSymbolMatcher → List (Bool × Filter)
patterns_of (Single m) = (false, filter_of m) ∷ []
patterns_of (Multiple ms) = map (λ m. (false, filter_of m)) ms
patterns_of (CxxMatchers ms) = map (λ m. (true, filter_of m)) ms

-- whether some pattern of an entry fits the name
abbrev pub entry_fits : Asked → ParsedSymbolMatcher → Bool
entry_fits a entry = list_any (λ f. fits a f.0 f.1) (patterns_of entry)

-- where a pattern stands: in which version and section, of which language and kind
abbrev pub place_of : ℕ → Side → Bool × Filter → Place
place_of n side f = record { version = n; side = side; cxx = f.0; class = class_of f.1 }

-- where the entries of a section fit the name
abbrev pub section_matches : Asked → ℕ → Side → List ParsedSymbolMatcher → List Place
section_matches a n side entries =
    map (place_of n side) (filter (λ f. fits a f.0 f.1) (flat_map patterns_of entries))

-- where the patterns of a version fit the name
abbrev pub version_matches : Asked → ℕ × RawVersion → List Place
version_matches a v = section_matches a v.0 Global v.1.body.globals ++ section_matches a v.0 Local v.1.body.locals

-- all places where some version fits the name
abbrev pub all_matches : List RawVersion → Asked → List Place
all_matches versions a = flat_map (version_matches a) (enumerate_from 0 versions)

-- in a class: of exact names the first version and in it plain names first, else the last version and in it globals first
abbrev pub is_not_after : Class → Place → Place → Bool
is_not_after Exact p q =
    nat_lt p.version q.version || (p.version == q.version && nat_le (exact_order p.side p.cxx) (exact_order q.side q.cxx))
is_not_after class p q =
    nat_lt q.version p.version || (p.version == q.version && nat_le (side_order p.side) (side_order q.side))

-- an exact name, then a glob without star, one with a star, a bare star
abbrev pub precedes : Place → Place → Bool
precedes p q =
    nat_lt (strength p.class) (strength q.class) || (strength p.class == strength q.class && is_not_after p.class p q)

-- the one that precedes the other, if there is another
abbrev pub stronger : Place → Option Place → Place
stronger p None = p
stronger p (Some q) = if precedes p q then p else q

-- the place that precedes all others
abbrev pub strongest : List Place → Option Place
strongest [] = None
strongest (p ∷ ps) = Some (stronger p (strongest ps))

-- the version and the section of the strongest match
abbrev pub rank : List RawVersion → Asked → Option (ℕ × Side)
rank versions a = option_map (λ p. (p.version, p.side)) (strongest (all_matches versions a))

-- whether the strongest match is local
abbrev pub is_local_by : RawScript → Asked → Bool
is_local_by script a = is_local_match (rank (versions_in script) a)

-- an explicit version is the last of its name, the empty one the global version
abbrev pub explicit_version : List Bytes → Bytes → Bytes → Result (Option ℕ) Undeclared
explicit_version names asked_name [] = Ok (Some ver_ndx_global)
explicit_version names asked_name (c ∷ version) = declared_as (record { name = asked_name; version = c ∷ version })
    (last_of (places_from (λ n. bytes_eq n (c ∷ version)) 0 names))

-- the version of a name by versions: the explicit one, else that of the strongest match
abbrev pub regular_version : List RawVersion → Asked → Option Bytes → Result (Option ℕ) Undeclared
regular_version versions a None = Ok (matched (rank versions a))
regular_version versions a (Some version) = explicit_version (raw_names versions) a.bytes version

-- by a script; one of the Rust form gives none
abbrev pub version_by : RawScript → Asked → Option Bytes → Result (Option ℕ) Undeclared
version_by script a explicit =
    if of_rust_form script then Ok None else regular_version (versions_in script) a explicit
