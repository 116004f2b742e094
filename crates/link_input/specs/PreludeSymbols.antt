-- The symbols of the prelude, which stand before those of all files.
use Rattle.std.specs.Prelude.{ℕ, false, List, [], ◌∷◌, ◌++◌, map}
use Rattle.link_input.specs.declared.internal_symbols.SymbolPlacement.TheVariants.{Undefined, ForceUndefined}
use Rattle.link_input.specs.declared.internal_symbols.InternalSymDefInfo.{InternalSymDefInfo}
use Rattle.link_input.specs.declared.options.Options.{Options}

-- the symbol that stands for no definition
abbrev pub undefined_symbol : InternalSymDefInfo
undefined_symbol = record { placement = Undefined; name = []; hidden = false }

-- a name that the user wants to be defined
abbrev pub forced_symbol : List ℕ → InternalSymDefInfo
forced_symbol name = record { placement = ForceUndefined; name = name; hidden = false }

-- the undefined symbol, the linker's symbols, the forced undefined names, and then the redirects
abbrev pub prelude_symbols : Options → List InternalSymDefInfo
prelude_symbols options = undefined_symbol ∷ (options.linker_symbols ++ (map forced_symbol options.force_undefined ++ options.defsym))
