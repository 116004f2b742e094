-- The rank of a name: the strongest of all matches, over every version and every filter in it.
use Rattle.std.specs.Prelude.{◌≡◌, ℕ, ◌<◌, ◌≤◌, List, Bool, true, false, Option, Some, None, IsTrue, ◌⊎◌, slice_get}
use Rattle.std.specs.Str.{chars}
use Rattle.link_glob.specs.Glob.{does_match}
use Rattle.link_script_syntax.specs.declared.body.Side.{Side}
use Rattle.link_script_syntax.specs.declared.body.Side.TheVariants.{Global, Local}
use Rattle.link_script_syntax.specs.declared.named.RawVersion.{RawVersion}
use Rattle.link_script.specs.declared.rules.BasicMatchRules.{BasicMatchRules}
use Rattle.link_script.specs.declared.rules.Version.{Version}
use Rattle.link_script.specs.declared.rules.Class.{Class}
use Rattle.link_script.specs.declared.rules.Class.TheVariants.{Exact, Nonstar, Star, Every}
use Rattle.link_script.specs.Filter.{Filter, name, nonstar, star, every, class_of, HasFilter, rules_of, entries_in, EntriesHave}
use Rattle.link_script.specs.Lookup.{Asked, name_of, text_of}

-- Exact filters compare bytes; globs read a text, so they fit no name that isn't UTF-8.
abbrev pub Fits : Option (List ℕ) → Option (List ℕ) → Filter → Type 0
Fits seen text (name n) = seen ≡ Some n
Fits seen text (nonstar p) = (t : List ℕ) × (text ≡ Some t) × IsTrue (does_match p (chars t))
Fits seen text (star p) = (t : List ℕ) × (text ≡ Some t) × IsTrue (does_match p (chars t))
Fits seen text every = Unit {0}

-- the rules have a filter of this class that fits the name
abbrev pub HasFit : BasicMatchRules → Class → Asked → Bool → Type 0
HasFit rules class a cxx = (f : Filter) × (class_of f ≡ class) × HasFilter rules f × Fits (name_of a cxx) (text_of a cxx) f

abbrev pub glob_class : Bool → Class
glob_class true = Nonstar
glob_class false = Star

-- where a match stands: which version, which section, a filter of C++ or not, and its class
pub record Place : Type 0 where
  pub version : ℕ
  pub side : Side
  pub cxx : Bool
  pub class : Class

-- the filters that versions have, by number, section and language
abbrev pub filters_of : List Version → ℕ → Side → Bool → Filter → Type 0
filters_of versions n side cxx f = (v : Version) × (slice_get versions n ≡ Some v) × HasFilter (rules_of v side cxx) f

-- those that a script's text has
abbrev pub filters_in : List RawVersion → ℕ → Side → Bool → Filter → Type 0
filters_in raws n side cxx f = (raw : RawVersion) × (slice_get raws n ≡ Some raw) × EntriesHave (entries_in raw.body side) cxx f

-- a filter of this place fits the name
pub record IsMatch (has : ℕ → Side → Bool → Filter → Type 0) (a : Asked) (p : Place) : Type 0 where
  pub filter : Filter
  pub class : class_of filter ≡ p.class
  pub there : has p.version p.side p.cxx filter
  pub fits : Fits (name_of a p.cxx) (text_of a p.cxx) filter

-- an exact name, a glob without a star, a glob with one, a bare star
abbrev pub strength : Class → ℕ
strength Exact = 0
strength Nonstar = 1
strength Star = 2
strength Every = 3

abbrev pub side_order : Side → ℕ
side_order Global = 0
side_order Local = 1

-- global plain, local plain, global C++, local C++
abbrev pub exact_order : Side → Bool → ℕ
exact_order Global false = 0
exact_order Local false = 1
exact_order Global true = 2
exact_order Local true = 3

-- within a class: the first version for exact names, the last one for the others, where globals come first
abbrev pub NotAfter : Class → Place → Place → Type 0
NotAfter Exact p q = (p.version < q.version) ⊎ ((p.version ≡ q.version) × (exact_order p.side p.cxx ≤ exact_order q.side q.cxx))
NotAfter class p q = (q.version < p.version) ⊎ ((p.version ≡ q.version) × (side_order p.side ≤ side_order q.side))

abbrev pub Precedes : Place → Place → Type 0
Precedes p q = (strength p.class < strength q.class) ⊎ ((p.class ≡ q.class) × NotAfter p.class p q)

-- The answer is the version and section of a match that precedes every other; or there is no match.
abbrev pub IsBest : (ℕ → Side → Bool → Filter → Type 0) → Asked → Option (ℕ × Side) → Type 0
IsBest has a None = (p : Place) → IsMatch has a p → ⊥
IsBest has a (Some x) = (p : Place) × IsMatch has a p × ((p.version ≡ x.0) × (p.side ≡ x.1)) × ((q : Place) → IsMatch has a q → Precedes p q)
