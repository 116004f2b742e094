-- What a contract sees of a symbol as its file lends it.
use Rattle.link_check_symbols.specs.Gathered.{listed_symbol}
use Rattle.link_input.specs.Symbols.{Symbol, symbol_of, in_prelude, in_object, in_script}
use Rattle.link_check_symbols.specs.declared.view.SymbolOrigin.{SymbolOrigin}
use Rattle.link_check_symbols.specs.declared.view.SymbolOrigin.TheVariants.{Prelude, Object, Script, Stub}

-- the symbol that is lent
abbrev pub seen_symbol : SymbolOrigin → Symbol
seen_symbol (Prelude d) = symbol_of d.now.name (in_prelude d.now)
seen_symbol (Object place is_dynamic row) = record { name = row.name; version = row.version; origin = in_object place is_dynamic row }
seen_symbol (Script d) = symbol_of d.now.name (in_script d.now)
seen_symbol (Stub name is_weak) = listed_symbol is_weak name.now
