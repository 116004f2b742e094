-- Files whose symbols have ids one after another.
use Rattle.std.specs.Prelude.{ℕ, ◌≡◌, ◌^◌, ◌<◌, List, ◌++◌, length, map}
use Rattle.std.specs.List.{flat_map, AllByRecursion}
use Rattle.link_ids.specs.Span.{Span}
use Rattle.link_input.specs.InputFiles.{symbol_count}
use Rattle.link_input.specs.SequencedFiles.{SequencedFile}
use Rattle.link_input_groups.specs.Asked.{AreIdsOf, HasIdsForAll}
use Rattle.link_input_groups.specs.FileIds.{HavePlaces}
use Rattle.link_input_groups.specs.Groups.{RunsFrom, files_of, length_of_spans}
use Rattle.link_db_files.specs.declared.starts.FileStart.{FileStart}
use Rattle.link_db_files.specs.HeldFiles.{HeldFiles, names_in}
use Rattle.link_db_files.specs.Starts.{starts_of}

-- the ids of the symbols of files
abbrev pub spans_of : List SequencedFile → List Span
spans_of files = map (λ f. f.symbols) files

-- a file with no symbol in a table: only that of the linker's own symbols has ids
abbrev pub HasNoTable : SequencedFile → Type 0
HasNoTable f = (symbol_count f.file ≡ 0) × AreIdsOf f.file f.symbols.len

-- files with ids one after another: first those with an id for each symbol in their tables, behind them files without tables, which have so many ids
pub record AreNumbered (files : List SequencedFile) (added : ℕ) : Type 0 where
  pub tabled : List SequencedFile
  pub behind : List SequencedFile
  pub joined : files ≡ tabled ++ behind
  pub tables : AllByRecursion HasIdsForAll tabled
  pub others : AllByRecursion HasNoTable behind
  pub count : length_of_spans (spans_of behind) ≡ added
  pub runs : RunsFrom 0 (spans_of files)

-- each file has the id of its place, each symbol one that 32 bits can say, and each file begins where this says
pub record AreHeld {P : Type 0} (held : HeldFiles P) (starts : List FileStart) : Type 0 where
  pub numbered : AreNumbered (flat_map files_of held.groups) (length held.added)
  pub places : HavePlaces held.groups
  pub fits : length (names_in held) < 2 ^ 32
  pub found : starts ≡ starts_of held.groups

-- groups can be held, with these names of the linker's own symbols: each file begins where its group says
abbrev pub CanBeHeld : {P : Type 0} → HeldFiles P → Type 0
CanBeHeld held = AreHeld held (starts_of held.groups)
