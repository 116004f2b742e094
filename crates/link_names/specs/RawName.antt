-- Names as symbol tables give them.
use Rattle.std.specs.Prelude.{ℕ, List, Option, Some, None}
use Rattle.link_names.specs.declared.symbol_name.PreHashedSymbolName.{PreHashedSymbolName}
use Rattle.link_names.specs.declared.symbol_name.PreHashedSymbolName.TheVariants.{Unversioned, Versioned}

-- with a version where there is one
abbrev pub raw_name : List ℕ → Option (List ℕ) → PreHashedSymbolName
raw_name name None = Unversioned name
raw_name name (Some version) = Versioned (record { name = name; version = version })

-- the bytes of a name, without its version
abbrev pub name_of : PreHashedSymbolName → List ℕ
name_of (Unversioned name) = name
name_of (Versioned v) = v.name
