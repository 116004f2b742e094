use Rattle.std.proofs.Common.{◌≡◌, ◌+◌, ◌++◌, drop, length}
use Rattle.std.specs.Prelude.{string_bytes}
use Rattle.link_input_groups.specs.Groups.{files_of}
use Rattle.link_core_answer.specs.Seen.{seen}
use Rattle.link_report.specs.Runs.{lines_of_names, names_of_files}
use Rattle.link_report.proofs.symbols.write_lines_of_group.Given as goal

-- the lines so far, and those of the files that are left; the id of the first of these
abbrev pub invariant-loop-place : goal.invariant-loop-place
invariant-loop-place g l =
    let files = files_of l.group in
    (string_bytes l.text ++ lines_of_names (seen l.linked) l.next (names_of_files (drop l.place files))
    ≡ string_bytes l.initial.text ++ lines_of_names (seen l.linked) l.first (names_of_files files))
    × (l.next + length (names_of_files (drop l.place files)) ≡ l.first + length (names_of_files files))
