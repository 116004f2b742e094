-- What is kept of files and of their symbols, in columns.
use Rattle.std.specs.Prelude.{ℕ, ◌++◌, List, Option, map, take}
use Rattle.std.specs.List.{flat_map}
use Rattle.link_input.specs.Symbols.{Symbol, symbols_of}
use Rattle.link_input_groups.specs.declared.group.Group.{Group}
use Rattle.link_input_groups.specs.Groups.{files_of}
use Rattle.link_db_files.specs.declared.outlines.FileOutline.{FileOutline}
use Rattle.link_db_files.specs.declared.sources.SymbolSource.{SymbolSource}
use Rattle.link_db_files.specs.Asked.{asked_numbers_of}
use Rattle.link_db_files.specs.GroupFiles.{symbols_in}
use Rattle.link_db_files.specs.Outlines.{outlines_of}
use Rattle.link_db_files.specs.Sources.{sources_of}

-- an outline of each file; where each symbol stands, and the hash number of what it asks for
pub record HeldColumns : Type 0 where
  pub outlines : List FileOutline
  pub sources : List SymbolSource
  pub asked : List (Option ℕ)

-- the symbols of the files of groups, before which there are so many objects
abbrev pub symbols_behind : {P : Type 0} → ℕ → List (Group P) → List Symbol
symbols_behind objects groups = symbols_of objects (map (λ f. f.file) (flat_map files_of groups))

-- the columns of the files of groups, before which there are so many objects
abbrev pub columns_behind : {P : Type 0} → ℕ → List (Group P) → HeldColumns
columns_behind objects groups = record {
  outlines = outlines_of groups;
  sources = sources_of (symbols_behind objects groups);
  asked = asked_numbers_of (symbols_behind objects groups);
}

-- the columns of all files of groups
abbrev pub columns_of : {P : Type 0} → List (Group P) → HeldColumns
columns_of groups = record { outlines = outlines_of groups; sources = sources_of (symbols_in groups); asked = asked_numbers_of (symbols_in groups) }

-- columns with others behind them
abbrev pub joined_columns : HeldColumns → HeldColumns → HeldColumns
joined_columns front back = record {
  outlines = front.outlines ++ back.outlines;
  sources = front.sources ++ back.sources;
  asked = front.asked ++ back.asked;
}

-- the columns of the first so many files, which have so many symbols
abbrev pub first_columns : ℕ → ℕ → HeldColumns → HeldColumns
first_columns files symbols columns = record {
  outlines = take files columns.outlines;
  sources = take symbols columns.sources;
  asked = take symbols columns.asked;
}
