-- What is counted of files that have ids.
use Rattle.std.specs.Prelude.{ℕ, ◌+◌, ◌^◌, ◌<◌, List, [], ◌∷◌, length}
use Rattle.link_input.specs.declared.options.Options.{Options}
use Rattle.link_input.specs.InputFiles.{InputFile, prelude, object, linker_script, stub_library, synthetic, object_count, symbol_count, Batch, batch_files}
use Rattle.link_input.specs.SequencedFiles.{SequencedFile}
use Rattle.link_input.specs.Limits.{Counts, Excess, section_total, total, with_boundaries}
use Rattle.link_input_groups.specs.declared.counting.FileCounts.{FileCounts}
use Rattle.link_input_groups.specs.declared.groups_error.GroupsError.{GroupsError}
use Rattle.link_input_groups.specs.declared.groups_error.GroupsError.TheVariants.{TooMany}

-- how many linker scripts a file is
abbrev pub script_count : InputFile → ℕ
script_count (prelude symbols) = 0
script_count (object o) = 0
script_count (linker_script s) = 1
script_count (stub_library input symbols) = 0
script_count synthetic = 0

-- how many stub libraries a file is
abbrev pub stub_count : InputFile → ℕ
stub_count (prelude symbols) = 0
stub_count (object o) = 0
stub_count (linker_script s) = 0
stub_count (stub_library input symbols) = 1
stub_count synthetic = 0

-- of one file
abbrev pub file_counts : SequencedFile → FileCounts
file_counts f = record { objects = object_count f.file; scripts = script_count f.file; stubs = stub_count f.file; sections = f.sections.len; symbols = f.symbols.len }

-- of no file
abbrev pub no_files : FileCounts
no_files = record { objects = 0; scripts = 0; stubs = 0; sections = 0; symbols = 0 }

-- of some files and of others
abbrev pub plus : FileCounts → FileCounts → FileCounts
plus a b = record { objects = a.objects + b.objects; scripts = a.scripts + b.scripts; stubs = a.stubs + b.stubs; sections = a.sections + b.sections; symbols = a.symbols + b.symbols }

-- of all these files
abbrev pub counts_in : List SequencedFile → FileCounts
counts_in [] = no_files
counts_in (f ∷ fs) = plus (file_counts f) (counts_in fs)

-- no count is large
pub record AreSmall (counts : FileCounts) : Type 0 where
  pub objects : counts.objects < 2 ^ 100
  pub scripts : counts.scripts < 2 ^ 100
  pub stubs : counts.stubs < 2 ^ 100
  pub sections : counts.sections < 2 ^ 100
  pub symbols : counts.symbols < 2 ^ 100

-- what is counted of a link, where these files and then a batch are its files
abbrev pub counts_with : Options → FileCounts → Batch → Counts
counts_with options before batch = record {
  objects = before.objects + length batch.objects;
  scripts = before.scripts + length batch.scripts;
  stubs = before.stubs + length batch.stubs;
  sections = before.sections + section_total batch.objects;
  symbols = with_boundaries options (before.symbols + total symbol_count (batch_files batch));
}

-- the refusal of an excess
abbrev pub too_many : Excess → GroupsError
too_many excess = TooMany excess.kind excess.count
