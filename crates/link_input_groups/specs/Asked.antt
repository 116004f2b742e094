-- What is needed of a group before it is asked for the ids of its symbols, and its files for their symbols.
use Rattle.std.specs.Prelude.{ℕ, ◌≡◌, ◌^◌, ◌<◌, List, length}
use Rattle.std.specs.List.{AllByRecursion}
use Rattle.link_input_groups.specs.declared.group.Group.{Group}
use Rattle.link_input.specs.InputFiles.{InputFile, synthetic, symbol_count}
use Rattle.link_input.specs.SequencedFiles.{SequencedFile}
use Rattle.link_input_groups.specs.Groups.{files_of, symbol_spans, length_of_spans, RunsOn}

-- a file has an id for each of its symbols
abbrev pub HasIdsForAll : SequencedFile → Type 0
HasIdsForAll f = f.symbols.len ≡ symbol_count f.file

-- these are the ids of a file's symbols, so many; the file of start and stop symbols, which stand in no table, is asked for whatever ids it has
abbrev pub AreIdsOf : InputFile → ℕ → Type 0
AreIdsOf synthetic count = Unit {0}
AreIdsOf f count = count ≡ symbol_count f

-- a group has files, the ids of their symbols run on, and each file has an id for each of its symbols
pub record CanBeAsked {P : Type 0} (g : Group P) : Type 0 where
  pub some : 0 < length (symbol_spans g)
  pub fits : length_of_spans (symbol_spans g) < 2 ^ 32
  pub runs : RunsOn (symbol_spans g)
  pub tables : AllByRecursion HasIdsForAll (files_of g)

-- each group can be asked
abbrev pub AllCanBeAsked : {P : Type 0} → List (Group P) → Type 0
AllCanBeAsked groups = AllByRecursion (λ g. CanBeAsked g) groups
