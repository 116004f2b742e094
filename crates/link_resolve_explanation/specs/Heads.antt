-- The first definition of the name of each symbol that defines one.
use Rattle.std.specs.Prelude.{ℕ, Option, None, if◌then◌else◌, option_and_then, unwrap_or}
use Rattle.link_input.specs.Symbols.{Symbol}
use Rattle.link_rules.specs.Names.{Mapping, is_listed, is_version_listed}
use Rattle.link_rules.specs.Places.{Bytes}

-- what is known of a name: what it is mapped to, or of some names something else
abbrev pub known_first : Mapping → (Bytes → Option (Option ℕ)) → Mapping
known_first mapping noted name = unwrap_or (noted name) (mapping name)

-- what is known of the symbol's plain name, where it is one of the definitions
abbrev pub plain_head : Mapping → Symbol → Option ℕ
plain_head first x = if is_listed x then first x.name else None

-- the same of its name and version
abbrev pub versioned_head : (Bytes → Bytes → Option ℕ) → Symbol → Option ℕ
versioned_head first x = if is_version_listed x then option_and_then (first x.name) x.version else None
