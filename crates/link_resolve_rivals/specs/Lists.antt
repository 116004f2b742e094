-- Lists of rivals: the definitions of one name, or of one name and version.
use Rattle.std.specs.Prelude.{◌≡◌, ◌<◌, ℕ, List, [], Contains, slice_get}
use Rattle.std.specs.Option.{option_map_or}
use Rattle.link_rules.specs.World.{Stage}
use Rattle.link_rules.specs.Rivals.{plain_list, versioned_list}

-- each symbol below a count stands in one list or in none: in a list stand symbols below the count, each of which has that list, and so has itself in it
pub record AreLists (listed : ℕ → List ℕ) (count : ℕ) : Type 0 where
  pub own : (s t : ℕ) → Contains (listed s) t → Contains (listed s) s
  pub same : (s t : ℕ) → Contains (listed s) t → listed t ≡ listed s
  pub inside : (s t : ℕ) → Contains (listed s) t → t < count

-- the definitions of the plain name of the symbol of this id
abbrev pub plain_lists : Stage → ℕ → List ℕ
plain_lists w s = option_map_or (plain_list w) (slice_get w.symbols s) []

-- the definitions of its name and version
abbrev pub versioned_lists : Stage → ℕ → List ℕ
versioned_lists w s = option_map_or (versioned_list w) (slice_get w.symbols s) []
