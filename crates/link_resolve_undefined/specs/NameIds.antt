-- What is noted of names with their versions.
use Rattle.std.specs.Prelude.{ℕ, ◌≡◌, Bool, Option}
use Rattle.std.specs.Map.{lookup}
use Rattle.link_input.specs.Symbols.{Symbol}
use Rattle.link_rules.specs.Places.{Bytes}
use Rattle.link_resolve_undefined.specs.declared.asked_name.AskedName.{AskedName}
use Rattle.link_resolve_undefined.specs.declared.name_ids.NameIds.{NameIds}
use Rattle.link_resolve_undefined.specs.Keys.{name_of, same_name, version_of}

-- it asks for this name and version
abbrev pub is_asked : Bytes → Option Bytes → AskedName → Bool
is_asked name version asked = same_name name version (name_of asked) (version_of asked)

-- what is noted of a name and version
abbrev pub id_in : NameIds → Bytes → Option Bytes → Option ℕ
id_in noted name version = lookup (is_asked name version) noted.ids.entries

-- what is answered of each symbol's name and version
abbrev pub Answers : NameIds → (Symbol → Option ℕ) → Type 0
Answers noted answer = (x : Symbol) → id_in noted x.name x.version ≡ answer x
