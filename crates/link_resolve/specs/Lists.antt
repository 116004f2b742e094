-- The definitions of names, as lists of rivals.
use Rattle.std.specs.Prelude.{ℕ, List, [], slice_get, if◌then◌else◌}
use Rattle.std.specs.Option.{option_map_or}
use Rattle.link_input.specs.Symbols.{Symbol}
use Rattle.link_rules.specs.Names.{definitions_of, is_listed, is_version_listed, versioned_definitions_of}

-- the definitions of the plain name of the symbol of this id, where it is one of them
abbrev pub plain_rivals : List Symbol → ℕ → List ℕ
plain_rivals symbols s = option_map_or (λ x. if is_listed x then definitions_of symbols x.name else []) (slice_get symbols s) []

-- the definitions of its name and version, where it is one of them
abbrev pub versioned_rivals : List Symbol → ℕ → List ℕ
versioned_rivals symbols s = option_map_or
    (λ x. if is_version_listed x then option_map_or (versioned_definitions_of symbols x.name) x.version [] else []) (slice_get symbols s) []
