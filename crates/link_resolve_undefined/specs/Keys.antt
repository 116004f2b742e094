-- The names and versions that references ask for.
use Rattle.std.specs.Prelude.{◌≡◌, ◌&&◌, Bool, Option, option_map}
use Rattle.std.specs.Str.{bytes_eq}
use Rattle.link_input.specs.Symbols.{Symbol}
use Rattle.link_rules.specs.Places.{Bytes, same_version}
use Rattle.link_resolve_undefined.specs.declared.asked_name.AskedName.{AskedName}

-- the name that is asked for
abbrev pub name_of : AskedName → Bytes
name_of asked = asked.name.now

-- the version that is asked for
abbrev pub version_of : AskedName → Option Bytes
version_of asked = option_map (λ v. v.now) asked.version

-- it is the symbol's name and version
pub record Asks (asked : AskedName) (x : Symbol) : Type 0 where
  pub name : name_of asked ≡ x.name
  pub version : version_of asked ≡ x.version

-- the same name and version
abbrev pub same_name : Bytes → Option Bytes → Bytes → Option Bytes → Bool
same_name name version other wanted = bytes_eq name other && same_version version wanted
