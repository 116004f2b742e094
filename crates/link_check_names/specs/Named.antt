-- What names are mapped to, as it follows from symbols and wrapped names alone.
use Rattle.std.specs.Prelude.{ℕ, ◌≡◌, List, None, Some, fold}
use Rattle.std.specs.Option.{option_or}
use Rattle.link_input.specs.Symbols.{Symbol}
use Rattle.link_names.specs.Names.{Noted, value_in}
use Rattle.link_rules.specs.Names.{Mapping, definitions_of, unwrapped, versioned_definitions_of, wrapped}
use Rattle.link_rules.specs.Places.{Bytes, first_of}
use Rattle.link_check_names.specs.Lists.{Listed, list_in}

-- the symbols of a link, and its wrapped names
pub record Named : Type 0 where
  pub symbols : List Symbol
  pub wrap : List Bytes

-- what a name is mapped to: its first definition, but for the wraps. At a stage with these symbols and wrapped names it is `first_definition`
abbrev pub mapped_name : Named → Mapping
mapped_name n = fold wrapped (unwrapped n.symbols) n.wrap

-- what a name is mapped to: what wraps changed, else the first that is listed
abbrev pub mapped_by : Listed → Noted ℕ → Mapping
mapped_by lists changed name = option_or (value_in changed name) (first_of (list_in lists name None))

-- the lists are those of the definitions, and the changes those of the wraps
pub record KnowsNames (n : Named) (lists : Listed) (changed : Noted ℕ) : Type 0 where
  pub plain : (name : Bytes) → list_in lists name None ≡ definitions_of n.symbols name
  pub versioned : (name version : Bytes) → list_in lists name (Some version) ≡ versioned_definitions_of n.symbols name version
  pub mapped : (name : Bytes) → mapped_by lists changed name ≡ mapped_name n name
