-- What the patterns of a script mean, and which of them the rules of a version have.
use Rattle.std.specs.Prelude.{◌≡◌, ℕ, List, [], ◌∷◌, Bool, true, false, Some, IsTrue, ◌⊎◌, ◌↔◌, slice_get}
use Rattle.link_glob.specs.Glob.{GlobToken}
use Rattle.link_names.specs.Names.{is_member}
use Rattle.link_script_syntax.specs.declared.body.Side.{Side}
use Rattle.link_script_syntax.specs.declared.body.Side.TheVariants.{Global, Local}
use Rattle.link_script_syntax.specs.declared.body.RawVersionBody.{RawVersionBody}
use Rattle.link_script_syntax.specs.declared.named.RawVersion.{RawVersion}
use Rattle.link_script_syntax.specs.declared.matcher.SymbolMatcher.{SymbolMatcher}
use Rattle.link_script_syntax.specs.declared.matcher.SymbolMatcher.TheVariants as matchers
use Rattle.link_script_syntax.specs.declared.matcher.ParsedSymbolMatcher.{ParsedSymbolMatcher}
use Rattle.link_script_syntax.specs.declared.matcher.ParsedSymbolMatcher.TheVariants.{Single, Multiple, CxxMatchers}
use Rattle.link_script.specs.declared.rules.BasicMatchRules.{BasicMatchRules}
use Rattle.link_script.specs.declared.rules.MatchRules.{MatchRules}
use Rattle.link_script.specs.declared.rules.VersionBody.{VersionBody}
use Rattle.link_script.specs.declared.rules.Version.{Version}
use Rattle.link_script.specs.declared.rules.Class.{Class}
use Rattle.link_script.specs.declared.rules.Class.TheVariants.{Exact, Nonstar, Star, Every}

-- what a pattern means; a name that was written with backslashes is one without them
pub data Filter : Type 0 where
  name : (bytes : List ℕ) → Filter
  nonstar : (tokens : List GlobToken) → Filter
  star : (tokens : List GlobToken) → Filter
  every : Filter

abbrev pub filter_of : SymbolMatcher → Filter
filter_of (matchers.Exact n) = name n
filter_of (matchers.EscapedExact n) = name n
filter_of (matchers.NonstarGlob p) = nonstar p
filter_of (matchers.StarGlob p) = star p
filter_of matchers.MatchesAll = every

abbrev pub class_of : Filter → Class
class_of (name n) = Exact
class_of (nonstar p) = Nonstar
class_of (star p) = Star
class_of every = Every

-- one of the globs is this one
abbrev pub HasGlob : List (List GlobToken) → List GlobToken → Type 0
HasGlob globs p = (k : ℕ) × (slice_get globs k ≡ Some p)

-- the rules have this filter
abbrev pub HasFilter : BasicMatchRules → Filter → Type 0
HasFilter r (name n) = IsTrue (is_member r.exact n)
HasFilter r (nonstar p) = HasGlob r.nonstar_globs.items p
HasFilter r (star p) = HasGlob r.star_globs.items p
HasFilter r every = IsTrue r.matches_all

-- the rules of one language
abbrev pub of_language : MatchRules → Bool → BasicMatchRules
of_language rules false = rules.general
of_language rules true = rules.cxx

-- the rules of a version's section
abbrev pub section : VersionBody → Side → MatchRules
section body Global = body.globals
section body Local = body.locals

abbrev pub rules_of : Version → Side → Bool → BasicMatchRules
rules_of v side cxx = of_language (section v.version_body side) cxx

-- the filter is that of one of these
abbrev pub AreFilters : List SymbolMatcher → Filter → Type 0
AreFilters [] f = ⊥
AreFilters (m ∷ ms) f = (f ≡ filter_of m) ⊎ AreFilters ms f

-- an entry asks for this filter, on plain names or on names of C++
abbrev pub EntryHas : ParsedSymbolMatcher → Bool → Filter → Type 0
EntryHas (Single m) false f = f ≡ filter_of m
EntryHas (Multiple ms) false f = AreFilters ms f
EntryHas (CxxMatchers ms) true f = AreFilters ms f
EntryHas entry cxx f = ⊥

abbrev pub EntriesHave : List ParsedSymbolMatcher → Bool → Filter → Type 0
EntriesHave [] cxx f = ⊥
EntriesHave (e ∷ es) cxx f = EntryHas e cxx f ⊎ EntriesHave es cxx f

-- the entries of a body's section
abbrev pub entries_in : RawVersionBody → Side → List ParsedSymbolMatcher
entries_in body Global = body.globals
entries_in body Local = body.locals

-- the rules have the same filters as before
abbrev pub SameRules : BasicMatchRules → BasicMatchRules → Type 0
SameRules old new = (f : Filter) → HasFilter new f ↔ HasFilter old f

abbrev pub SameFilters : MatchRules → MatchRules → Type 0
SameFilters old new = (cxx : Bool) (f : Filter) → HasFilter (of_language new cxx) f ↔ HasFilter (of_language old cxx) f

-- the new rules have this filter and those of the old ones
abbrev pub Adds : SymbolMatcher → BasicMatchRules → BasicMatchRules → Type 0
Adds m old new = (f : Filter) → HasFilter new f ↔ (HasFilter old f ⊎ (f ≡ filter_of m))

abbrev pub AddsAll : List SymbolMatcher → BasicMatchRules → BasicMatchRules → Type 0
AddsAll ms old new = (f : Filter) → HasFilter new f ↔ (HasFilter old f ⊎ AreFilters ms f)

-- the new rules have the filters of this entry, and those of the old ones
abbrev pub AddsEntry : ParsedSymbolMatcher → MatchRules → MatchRules → Type 0
AddsEntry e old new = (cxx : Bool) (f : Filter) → HasFilter (of_language new cxx) f ↔ (HasFilter (of_language old cxx) f ⊎ EntryHas e cxx f)

-- the rules have exactly the filters of these entries
abbrev pub HasEntries : List ParsedSymbolMatcher → MatchRules → Type 0
HasEntries entries rules = (cxx : Bool) (f : Filter) → HasFilter (of_language rules cxx) f ↔ EntriesHave entries cxx f

-- the body has exactly the filters of the entries that were read
abbrev pub HasBody : RawVersionBody → VersionBody → Type 0
HasBody raw body = (side : Side) (cxx : Bool) (f : Filter) → HasFilter (of_language (section body side) cxx) f ↔ EntriesHave (entries_in raw side) cxx f

-- the version has the name, the parent and exactly the filters that were read
pub record IsVersion (raw : RawVersion) (v : Version) : Type 0 where
  pub name : v.name ≡ raw.name
  pub parent : v.parent_index ≡ raw.parent_index
  pub body : HasBody raw.body v.version_body

abbrev pub AreVersions : List RawVersion → List Version → Type 0
AreVersions [] [] = Unit {0}
AreVersions (raw ∷ raws) (v ∷ versions) = IsVersion raw v × AreVersions raws versions
AreVersions raws versions = ⊥
