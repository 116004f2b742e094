-- The files of a group.
use Rattle.std.specs.Prelude.{ℕ, ◌≡◌, ◌+◌, List, [], ◌∷◌, map, length}
use Rattle.link_ids.specs.Span.{Span}
use Rattle.link_ids.specs.FilePlace.{FilePlace}
use Rattle.link_input_groups.specs.declared.sequenced.SequencedInputObject.{SequencedInputObject}
use Rattle.link_input_groups.specs.declared.sequenced.SequencedLinkerScript.{SequencedLinkerScript}
use Rattle.link_input_groups.specs.declared.sequenced.SequencedStubLibrary.{SequencedStubLibrary}
use Rattle.link_input_groups.specs.declared.sequenced.SyntheticSymbols.{SyntheticSymbols}
use Rattle.link_input_groups.specs.declared.group.Group.{Group}
use Rattle.link_input_groups.specs.declared.group.Group.TheVariants as group
use Rattle.link_input.specs.declared.internal_symbols.InternalSymDefInfo.{InternalSymDefInfo}
use Rattle.link_input.specs.InputFiles.{prelude, object, linker_script, stub_library, synthetic}
use Rattle.link_input.specs.Limits.{total}
use Rattle.link_input.specs.SequencedFiles.{SequencedFile, no_sections}

-- the prelude with the ids of its symbols, which are the first ones
abbrev pub sequenced_prelude : List InternalSymDefInfo → SequencedFile
sequenced_prelude symbols = record { file = prelude symbols; symbols = record { start = 0; len = length symbols }; sections = no_sections }

-- an object with its ids, but for that of the file
abbrev pub object_file : {P : Type 0} → SequencedInputObject P → SequencedFile
object_file o = record { file = object o.parsed; symbols = o.symbol_id_range; sections = o.section_id_range }

-- a linker script with its ids
abbrev pub script_file : SequencedLinkerScript → SequencedFile
script_file s = record { file = linker_script s.parsed; symbols = s.symbol_id_range; sections = no_sections }

-- a stub library with its ids
abbrev pub stub_file : SequencedStubLibrary → SequencedFile
stub_file s = record { file = stub_library s.input s.defined_symbols; symbols = s.symbol_id_range; sections = no_sections }

-- the file of the start and stop symbols with its ids
abbrev pub synthetic_file : SyntheticSymbols → SequencedFile
synthetic_file s = record { file = synthetic; symbols = s.symbol_id_range; sections = no_sections }

-- the files of a group, in order
abbrev pub files_of : {P : Type 0} → Group P → List SequencedFile
files_of (group.Prelude symbols) = sequenced_prelude symbols ∷ []
files_of (group.Objects objects) = map object_file objects
files_of (group.LinkerScripts scripts) = map script_file scripts
files_of (group.StubLibraries stubs) = map stub_file stubs
files_of (group.SyntheticSymbols s) = synthetic_file s ∷ []

-- the ids of the files of a group, in order
abbrev pub file_ids : {P : Type 0} → Group P → List FilePlace
file_ids (group.Prelude symbols) = record { group = 0; file = 0 } ∷ []
file_ids (group.Objects objects) = map (λ o. o.file_id) objects
file_ids (group.LinkerScripts scripts) = map (λ s. s.file_id) scripts
file_ids (group.StubLibraries stubs) = map (λ s. s.file_id) stubs
file_ids (group.SyntheticSymbols s) = s.file_id ∷ []

-- the ids of the symbols of each file of a group
abbrev pub symbol_spans : {P : Type 0} → Group P → List Span
symbol_spans (group.Prelude symbols) = record { start = 0; len = length symbols } ∷ []
symbol_spans (group.Objects objects) = map (λ o. o.symbol_id_range) objects
symbol_spans (group.LinkerScripts scripts) = map (λ s. s.symbol_id_range) scripts
symbol_spans (group.StubLibraries stubs) = map (λ s. s.symbol_id_range) stubs
symbol_spans (group.SyntheticSymbols s) = s.symbol_id_range ∷ []

-- how many numbers runs have
abbrev pub length_of_spans : List Span → ℕ
length_of_spans spans = total (λ s. s.len) spans

-- each run begins where the one before it ends, the first here
abbrev pub RunsFrom : ℕ → List Span → Type 0
RunsFrom n [] = Unit {0}
RunsFrom n (s ∷ ss) = (s.start ≡ n) × RunsFrom (n + s.len) ss

-- each run begins where the one before it ends
abbrev pub RunsOn : List Span → Type 0
RunsOn [] = Unit {0}
RunsOn (s ∷ ss) = RunsFrom (s.start + s.len) ss
