-- The files of a link with the ids of their symbols and sections, which their order alone gives.
use Rattle.std.specs.Prelude.{ℕ, ◌+◌, List, [], ◌∷◌, if◌then◌else◌}
use Rattle.link_ids.specs.Span.{Span}
use Rattle.link_input.specs.declared.options.Options.{Options}
use Rattle.link_input.specs.ObjectFile.{ObjectFile}
use Rattle.link_input.specs.InputFiles.{InputFile, prelude, object, linker_script, stub_library, synthetic, Batch, input_files, symbol_count, section_count}

-- a file, and the ids of its symbols and of its sections
pub record SequencedFile : Type 0 where
  pub file : InputFile
  pub symbols : Span
  pub sections : Span

-- no ids
abbrev pub no_sections : Span
no_sections = record { start = 0; len = 0 }

-- the ids of the sections of an object, of which the first would have this number
abbrev pub object_sections : ℕ → ObjectFile → Span
object_sections first o = if o.object.is_dynamic then no_sections else record { start = first; len = o.object.sections }

-- the ids of the sections of a file
abbrev pub file_sections : ℕ → InputFile → Span
file_sections first (prelude symbols) = no_sections
file_sections first (object o) = object_sections first o
file_sections first (linker_script s) = no_sections
file_sections first (stub_library input symbols) = no_sections
file_sections first synthetic = no_sections

-- files one after another: the ids of each begin where those of the files before it end
abbrev pub sequenced : ℕ → ℕ → List InputFile → List SequencedFile
sequenced symbols sections [] = []
sequenced symbols sections (f ∷ fs) =
    record { file = f; symbols = record { start = symbols; len = symbol_count f }; sections = file_sections sections f }
    ∷ sequenced (symbols + symbol_count f) (sections + section_count f) fs

-- the files of some batches with their ids
abbrev pub sequenced_files : Options → List Batch → List SequencedFile
sequenced_files options batches = sequenced 0 0 (input_files options batches)
