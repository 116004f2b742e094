-- The symbols of groups, and runs of groups whose symbols' lines are written side by side.
use Rattle.std.specs.Prelude.{ℕ, ◌+◌, ◌≤◌, List, length, map}
use Rattle.std.specs.List.{AllByRecursion, enumerate_from, flat_map}
use Rattle.link_input.specs.InputFiles.{InputFile}
use Rattle.link_input.specs.SequencedFiles.{SequencedFile}
use Rattle.link_input.specs.Symbols.{file_symbols}
use Rattle.link_input_groups.specs.declared.group.Group.{Group}
use Rattle.link_input_groups.specs.Groups.{files_of}
use Rattle.link_rules.specs.Places.{Bytes, each_from}
use Rattle.link_rules.specs.Report.{joined_lines, symbol_line}
use Rattle.link_core_answer.specs.Parts.{Parts, answer_of}
use Rattle.link_report.specs.declared.runs.Run.{Run}

-- the names of the symbols in the table of a file
abbrev pub names_of_file : InputFile → List Bytes
names_of_file f = map (λ x. x.name) (file_symbols 0 f)

-- those of files one after another
abbrev pub names_of_files : List SequencedFile → List Bytes
names_of_files files = flat_map (λ f. names_of_file f.file) files

-- those of the files of groups
abbrev pub names_of_groups : {P : Type 0} → List (Group P) → List Bytes
names_of_groups groups = flat_map (λ g. names_of_files (files_of g)) groups

-- the lines of symbols with these names, of which the first has this id
abbrev pub lines_of_names : {P : Type 0} → Parts P → ℕ → List Bytes → Bytes
lines_of_names x first names = joined_lines (each_from (symbol_line (answer_of x).table (answer_of x).flags) first names)

-- the names of a run's symbols
abbrev pub names_of_run : {P : Type 0} → Run P → List Bytes
names_of_run run = names_of_groups run.groups.now

-- the lines of a run's symbols
abbrev pub lines_of_run : {P : Type 0} → Parts P → Run P → Bytes
lines_of_run x run = lines_of_names x run.first (names_of_run run)

-- the names of the symbols of runs, each with its id
abbrev pub symbols_of_runs : {P : Type 0} → List (Run P) → List (ℕ × Bytes)
symbols_of_runs runs = flat_map (λ run. enumerate_from run.first (names_of_run run)) runs

-- the ids of the symbols of each run are below this number
abbrev pub AreBelow : {P : Type 0} → ℕ → List (Run P) → Type 0
AreBelow count runs = AllByRecursion (λ run. run.first + length (names_of_run run) ≤ count) runs
