use Rattle.std.proofs.Common.{◌≡◌, ◌+◌, ◌++◌, drop}
use Rattle.std.specs.Prelude.{string_bytes}
use Rattle.link_input_groups.specs.SequencedInputs.{sequenced_file}
use Rattle.link_core_answer.specs.Seen.{seen}
use Rattle.link_report.specs.Runs.{lines_of_names, names_of_file}
use Rattle.link_report.proofs.symbols.write_lines_of_file.Given as goal

-- the lines so far, and those of the symbols that are left
abbrev pub invariant-loop-place : goal.invariant-loop-place
invariant-loop-place g l =
    let names = names_of_file (sequenced_file l.file).file in
    string_bytes l.text ++ lines_of_names (seen l.linked) (l.first + l.place) (drop l.place names)
    ≡ string_bytes l.initial.text ++ lines_of_names (seen l.linked) l.first names
