-- Ids that are noted of names with their versions.
use Rattle.std.specs.Prelude.{ℕ, List, Option}
use Rattle.std.specs.Map.{lookup}
use Rattle.link_input.specs.Symbols.{Symbol}
use Rattle.link_rules.specs.Places.{Bytes}
use Rattle.link_check_names.specs.Keys.{Key, KeyRef, has_key, key_for}

-- keys of names with their versions, and the id that is noted of each
abbrev pub Noted : Type 0
Noted = List (KeyRef × ℕ)

-- what is noted of a key
abbrev pub id_at : Noted → Key → Option ℕ
id_at noted key = lookup (has_key key) noted

-- what is noted of a name and version
abbrev pub id_in : Noted → Bytes → Option Bytes → Option ℕ
id_in noted name version = id_at noted (key_for name version)

-- what is noted of the name and version of a symbol
abbrev pub id_of : Noted → Symbol → Option ℕ
id_of noted x = id_in noted x.name x.version
