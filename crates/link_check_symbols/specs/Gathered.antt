-- The symbols of a link of one batch, file by file.
use Rattle.std.specs.Prelude.{ℕ, Bool, List, ◌++◌, if◌then◌else◌}
use Rattle.link_flags.specs.declared.strength.SymbolStrength.TheVariants.{Strong, Weak}
use Rattle.link_input.specs.declared.internal_symbols.InternalSymDefInfo.{InternalSymDefInfo}
use Rattle.link_input.specs.declared.world.ProcessedLinkerScript.{ProcessedLinkerScript}
use Rattle.link_input.specs.declared.world.StubLibrary.{StubLibrary}
use Rattle.link_input.specs.InputFiles.{Batch, batch_files, linker_script, prelude, stub_input}
use Rattle.link_input.specs.Symbols.{Symbol, file_symbols, in_stub, symbol_of, symbols_of}

-- the symbols of the prelude, and behind them those of the files of the batch: the symbols of the first stage of a link
abbrev pub link_symbols : List InternalSymDefInfo → Batch → List Symbol
link_symbols definitions b = file_symbols 0 (prelude definitions) ++ symbols_of 0 (batch_files b)

-- the symbols of a linker script
abbrev pub script_symbols : ProcessedLinkerScript → List Symbol
script_symbols s = file_symbols 0 (linker_script s)

-- the symbols of a stub library
abbrev pub library_symbols : StubLibrary → List Symbol
library_symbols s = file_symbols 0 (stub_input s)

-- the symbol of a name in one of the two lists of a stub library
abbrev pub listed_symbol : Bool → List ℕ → Symbol
listed_symbol is_weak name = symbol_of name (in_stub (if is_weak then Weak else Strong))
