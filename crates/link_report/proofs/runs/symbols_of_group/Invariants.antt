use Rattle.std.proofs.Common.{◌≡◌, ◌+◌, drop, length}
use Rattle.link_input_groups.specs.Groups.{files_of}
use Rattle.link_report.specs.Runs.{names_of_files}
use Rattle.link_report.proofs.runs.symbols_of_group.Given as goal

-- the symbols so far, and those of the files that are left
abbrev pub invariant-loop-place : goal.invariant-loop-place
invariant-loop-place g l = l.count + length (names_of_files (drop l.place (files_of l.group))) ≡ length (names_of_files (files_of l.group))
