-- The files of a link, whatever its platform, in the order in which their symbols have ids.
use Rattle.std.specs.Prelude.{ℕ, Bool, true, false, List, ◌∷◌, ◌++◌, map, length, if◌then◌else◌}
use Rattle.std.specs.List.{flat_map}
use Rattle.link_input.specs.declared.internal_symbols.InternalSymDefInfo.{InternalSymDefInfo}
use Rattle.link_input.specs.declared.options.Options.{Options}
use Rattle.link_input.specs.declared.world.Inputs.{Inputs}
use Rattle.link_input.specs.declared.world.ProcessedLinkerScript.{ProcessedLinkerScript}
use Rattle.link_input.specs.declared.world.StubLibrary.{StubLibrary}
use Rattle.link_input.specs.declared.world.StubSymbol.{StubSymbol}
use Rattle.link_input.specs.ObjectFile.{ObjectFile, is_optional}
use Rattle.link_input.specs.PreludeSymbols.{prelude_symbols}

-- a file: the prelude, an object, a linker script, a stub library, or the one of the start and stop symbols that the linker adds at the end
pub data InputFile : Type 0 where
  prelude : (symbols : List InternalSymDefInfo) → InputFile
  object : (parsed : ObjectFile) → InputFile
  linker_script : (parsed : ProcessedLinkerScript) → InputFile
  stub_library : (input : List ℕ) (symbols : List StubSymbol) → InputFile
  synthetic : InputFile

-- a symbol of a stub library, by the list that names it
abbrev pub stub_symbol : Bool → List ℕ → StubSymbol
stub_symbol is_weak name = record { name = name; is_weak = is_weak }

-- the symbols of a stub library: the strong ones, and then the weak ones
abbrev pub stub_symbols : StubLibrary → List StubSymbol
stub_symbols s = map (stub_symbol false) s.strong ++ map (stub_symbol true) s.weak

-- a stub library as a file
abbrev pub stub_input : StubLibrary → InputFile
stub_input s = stub_library s.input (stub_symbols s)

-- how many symbols it has
abbrev pub symbol_count : InputFile → ℕ
symbol_count (prelude symbols) = length symbols
symbol_count (object o) = length o.object.symbols
symbol_count (linker_script s) = length s.symbol_defs
symbol_count (stub_library input symbols) = length symbols
symbol_count synthetic = 0

-- how many sections of an object have ids: none of a shared object's
abbrev pub sections_of : ObjectFile → ℕ
sections_of o = if o.object.is_dynamic then 0 else o.object.sections

-- how many sections of a file have ids
abbrev pub section_count : InputFile → ℕ
section_count (prelude symbols) = 0
section_count (object o) = sections_of o
section_count (linker_script s) = 0
section_count (stub_library input symbols) = 0
section_count synthetic = 0

-- how many objects it is
abbrev pub object_count : InputFile → ℕ
object_count (prelude symbols) = 0
object_count (object o) = 1
object_count (linker_script s) = 0
object_count (stub_library input symbols) = 0
object_count synthetic = 0

-- a file that is linked only where it is asked for
abbrev pub is_optional_file : InputFile → Bool
is_optional_file (prelude symbols) = false
is_optional_file (object o) = is_optional o
is_optional_file (linker_script s) = false
is_optional_file (stub_library input symbols) = false
is_optional_file synthetic = false

-- a file whose symbols are found at run time: a shared object, or the stub of one
abbrev pub is_shared_file : InputFile → Bool
is_shared_file (prelude symbols) = false
is_shared_file (object o) = o.object.is_dynamic
is_shared_file (linker_script s) = false
is_shared_file (stub_library input symbols) = true
is_shared_file synthetic = false

-- the files that come to a link together, whatever their platform
pub record Batch : Type 0 where
  pub objects : List ObjectFile
  pub scripts : List ProcessedLinkerScript
  pub stubs : List StubLibrary

-- what a contract sees of inputs, without their platform
abbrev pub batch_of : {P : Type 0} → Inputs P → Batch
batch_of inputs = record { objects = inputs.objects; scripts = inputs.scripts; stubs = inputs.stubs }

-- the files of a batch: the objects, the linker scripts, and the stub libraries
abbrev pub batch_files : Batch → List InputFile
batch_files b = map object b.objects ++ (map linker_script b.scripts ++ map stub_input b.stubs)

-- the file that stands before all others
abbrev pub prelude_file : Options → InputFile
prelude_file options = prelude (prelude_symbols options)

-- the files of a link: the prelude, and those of each batch
abbrev pub input_files : Options → List Batch → List InputFile
input_files options batches = prelude_file options ∷ flat_map batch_files batches
