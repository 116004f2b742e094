-- The objects, the linker scripts and the stub libraries among the files of groups.
use Rattle.std.specs.Prelude.{ℕ, ◌+◌, Bool, List, Option, Some, None, filter, length, map, not, take}
use Rattle.std.specs.List.{filter_map, flat_map}
use Rattle.link_ids.specs.FilePlace.{FilePlace}
use Rattle.link_input.specs.declared.world.ProcessedLinkerScript.{ProcessedLinkerScript}
use Rattle.link_input.specs.declared.world.StubLibrary.{StubLibrary}
use Rattle.link_input.specs.declared.world.StubSymbol.{StubSymbol}
use Rattle.link_input.specs.InputFiles.{InputFile, prelude, object, linker_script, stub_library, synthetic}
use Rattle.link_input.specs.ObjectFile.{ObjectFile}
use Rattle.link_input_groups.specs.declared.group.Group.{Group}
use Rattle.link_input_groups.specs.Groups.{files_of}

-- the object that a file is
abbrev pub object_of : InputFile → Option ObjectFile
object_of (prelude symbols) = None
object_of (object o) = Some o
object_of (linker_script s) = None
object_of (stub_library input symbols) = None
object_of synthetic = None

-- the linker script that a file is
abbrev pub script_of : InputFile → Option ProcessedLinkerScript
script_of (prelude symbols) = None
script_of (object o) = None
script_of (linker_script s) = Some s
script_of (stub_library input symbols) = None
script_of synthetic = None

-- the names of those symbols of a stub library that pass
abbrev pub names_of : (StubSymbol → Bool) → List StubSymbol → List (List ℕ)
names_of passes symbols = map (λ s. s.name) (filter passes symbols)

-- the stub library that a file is
abbrev pub stub_of : InputFile → Option StubLibrary
stub_of (prelude symbols) = None
stub_of (object o) = None
stub_of (linker_script s) = None
stub_of (stub_library input symbols) = Some (record { input = input; strong = names_of (λ s. not s.is_weak) symbols; weak = names_of (λ s. s.is_weak) symbols })
stub_of synthetic = None

-- the objects among the files of groups, regular and shared ones
abbrev pub objects_in : {P : Type 0} → List (Group P) → List ObjectFile
objects_in groups = filter_map (λ f. object_of f.file) (flat_map files_of groups)

-- how many objects stand before the object with this id: those of earlier groups, and those before it in its own
abbrev pub objects_before : {P : Type 0} → List (Group P) → FilePlace → ℕ
objects_before groups id = length (objects_in (take id.group groups)) + id.file

-- the linker scripts among the files of groups
abbrev pub scripts_in : {P : Type 0} → List (Group P) → List ProcessedLinkerScript
scripts_in groups = filter_map (λ f. script_of f.file) (flat_map files_of groups)

-- the stub libraries among the files of groups
abbrev pub stubs_in : {P : Type 0} → List (Group P) → List StubLibrary
stubs_in groups = filter_map (λ f. stub_of f.file) (flat_map files_of groups)
