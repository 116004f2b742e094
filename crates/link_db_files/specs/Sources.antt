-- Where the symbols of a link stand, as far as loading asks.
use Rattle.std.specs.Prelude.{ℕ, List, Option, Some, None, map}
use Rattle.link_input.specs.InputFiles.{InputFile, prelude, object, linker_script, stub_library, synthetic, is_shared_file}
use Rattle.link_input.specs.Symbols.{Symbol, object_in, is_shared}
use Rattle.link_db_files.specs.declared.sources.SymbolSource.{SymbolSource}

-- the place of the object that holds the symbol, and whether its file is shared
abbrev pub source_of : Symbol → SymbolSource
source_of x = record { object = object_in x.origin; is_shared = is_shared x.origin }

-- the same of all symbols
abbrev pub sources_of : List Symbol → List SymbolSource
sources_of symbols = map source_of symbols

-- the place of the object that a file is, if it is one, before which there are so many
abbrev pub object_place : ℕ → InputFile → Option ℕ
object_place n (prelude symbols) = None
object_place n (object o) = Some n
object_place n (linker_script script) = None
object_place n (stub_library input symbols) = None
object_place n synthetic = None

-- where all symbols of a file stand, before which there are so many objects
abbrev pub file_source : ℕ → InputFile → SymbolSource
file_source n f = record { object = object_place n f; is_shared = is_shared_file f }
