-- What references ask for, told by what they stand for and by where that stands.
use Rattle.std.specs.Prelude.{ℕ, ◌&&◌, ◌||◌, List, Option, None, if◌then◌else◌, slice_get}
use Rattle.std.specs.Option.{option_and_then}
use Rattle.link_input.specs.Symbols.{Symbol}
use Rattle.link_rules.specs.Places.{same_number}
use Rattle.link_rules.specs.Undefined.{is_weak_symbol}
use Rattle.link_db_files.specs.declared.sources.SymbolSource.{SymbolSource}
use Rattle.link_db_files.specs.Sources.{source_of}

-- the object at which a target stands, if it is another one, and not both files are shared
abbrev pub requested : SymbolSource → SymbolSource → Option ℕ
requested from to = if (from.is_shared && to.is_shared) || same_number from.object to.object then None else to.object

-- the object that a symbol with this target asks for: a weak one asks for none
abbrev pub request_by : List SymbolSource → Symbol → Option ℕ → Option ℕ
request_by sources x target =
    if is_weak_symbol x then None else option_and_then (requested (source_of x)) (option_and_then (slice_get sources) target)
