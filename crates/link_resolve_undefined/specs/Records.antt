-- References by their ids.
use Rattle.std.specs.Prelude.{ℕ, ◌≡◌, ◌<◌, Bool, List, All, Option, length, option_map, slice_get}
use Rattle.std.specs.List.{filter_map}
use Rattle.std.specs.List.Sorted.{IsStrictlyIncreasing}
use Rattle.link_input.specs.Symbols.{Symbol}
use Rattle.link_rules.specs.Selection.{Selection}
use Rattle.link_rules.specs.Undefined.{Numbered}

-- the selection is over these symbols, these objects are loaded, and these are the targets of loaded references
pub record TellsOf (symbols : List Symbol) (marks : List Bool) (targets : List (Option ℕ)) (l : Selection) : Type 0 where
  pub symbols_are : l.stage.symbols ≡ symbols
  pub marks_are : l.marks ≡ marks
  pub targets_are : l.targets ≡ targets

-- the symbols of these ids, each with its id
abbrev pub numbered_at : List Symbol → List ℕ → List Numbered
numbered_at symbols ids = filter_map (λ s. option_map (λ x. (s, x)) (slice_get symbols s)) ids

-- the ids of some of these symbols, in rising order
pub record AreSome (symbols : List Symbol) (ids : List ℕ) : Type 0 where
  pub rising : IsStrictlyIncreasing ids
  pub inside : All (λ s. s < length symbols) ids
