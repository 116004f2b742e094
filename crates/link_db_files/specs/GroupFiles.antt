-- The files of groups, and their symbols.
use Rattle.std.specs.Prelude.{ℕ, ◌≡◌, List, map, Option, Some, option_and_then, slice_get}
use Rattle.std.specs.List.{flat_map}
use Rattle.link_ids.specs.FilePlace.{FilePlace}
use Rattle.link_ids.specs.Span.{IsInside, offset_in}
use Rattle.link_input.specs.declared.options.Options.{Options}
use Rattle.link_input.specs.InputFiles.{Batch}
use Rattle.link_input.specs.SequencedFiles.{SequencedFile}
use Rattle.link_input.specs.Symbols.{Symbol, file_symbols, symbols_of}
use Rattle.link_input_groups.specs.declared.group.Group.{Group}
use Rattle.link_input_groups.specs.Asked.{AreIdsOf}
use Rattle.link_input_groups.specs.Groups.{files_of}
use Rattle.link_input_groups.specs.Held.{AreGroupsOf}

-- groups of some batches of a link
abbrev pub AreGroupsOfLink : {P : Type 0} → List (Group P) → Type 0
AreGroupsOfLink {P} groups = (options : Options) × ((batches : List Batch) × AreGroupsOf options batches groups)

-- the symbols that stand in the tables of the files of groups: the id of each is its place here
abbrev pub symbols_in : {P : Type 0} → List (Group P) → List Symbol
symbols_in groups = symbols_of 0 (map (λ f. f.file) (flat_map files_of groups))

-- the file with this id
abbrev pub file_at : {P : Type 0} → List (Group P) → FilePlace → Option SequencedFile
file_at groups id = option_and_then (λ g. slice_get (files_of g) id.file) (slice_get groups id.group)

-- the symbol is one of the file: where it stands in a table, it stands in the file's at its offset, whatever number of objects comes before
pub record IsIn {P : Type 0} (groups : List (Group P)) (symbol : ℕ) (file : SequencedFile) : Type 0 where
  pub inside : IsInside file.symbols symbol
  pub ids : AreIdsOf file.file file.symbols.len
  pub before : ℕ
  pub same : slice_get (symbols_in groups) symbol ≡ slice_get (file_symbols before file.file) (offset_in file.symbols symbol)

-- the file with this id has the symbol
abbrev pub IsFileOf : {P : Type 0} → List (Group P) → ℕ → FilePlace → Type 0
IsFileOf groups symbol id = (file : SequencedFile) × ((file_at groups id ≡ Some file) × IsIn groups symbol file)
