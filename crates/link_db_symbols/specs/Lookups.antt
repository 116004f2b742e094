-- What is looked up for each symbol of a link.
use Rattle.std.specs.Prelude.{ℕ, ◌≡◌, ◌<◌, All, IfSome, List, Option, None, slice_get}
use Rattle.std.specs.Option.{option_map_or}
use Rattle.link_input.specs.Symbols.{Symbol}
use Rattle.link_rules.specs.Names.{Mapping, first_definition}
use Rattle.link_rules.specs.Places.{Bytes}
use Rattle.link_rules.specs.Selection.{Selection}

-- the target that a list has for the symbol of this id
abbrev pub target_at : List (Option ℕ) → ℕ → Option ℕ
target_at targets s = option_map_or (λ t. t) (slice_get targets s) None

-- what follows for these symbols, where names are mapped so and these are the targets of loaded references
pub record IsSelectionOf (symbols : List Symbol) (mapping : Mapping) (targets : List (Option ℕ)) (l : Selection) : Type 0 where
  pub symbols_are : l.stage.symbols ≡ symbols
  pub names_are : (name : Bytes) → first_definition l.stage name ≡ mapping name
  pub targets_are : l.targets ≡ targets

-- each target is one of the first n symbols
abbrev pub AreBelow : ℕ → List (Option ℕ) → Type 0
AreBelow n targets = All (λ target. IfSome target (λ t. t < n)) targets

-- names are mapped to some of the first n symbols
abbrev pub MapsBelow : ℕ → Mapping → Type 0
MapsBelow n mapping = (name : Bytes) → IfSome (mapping name) (λ s. s < n)
