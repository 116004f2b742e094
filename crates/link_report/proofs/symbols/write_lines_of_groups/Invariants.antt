use Rattle.std.proofs.Common.{◌≡◌, ◌+◌, ◌++◌, drop, length}
use Rattle.std.specs.Prelude.{string_bytes}
use Rattle.link_core_answer.specs.Seen.{seen}
use Rattle.link_report.specs.Runs.{lines_of_names, names_of_groups}
use Rattle.link_report.proofs.symbols.write_lines_of_groups.Given as goal

-- the lines so far, and those of the groups that are left; the id of the first of these
abbrev pub invariant-loop-group : goal.invariant-loop-group
invariant-loop-group g l =
    (string_bytes l.text ++ lines_of_names (seen l.linked) l.next (names_of_groups (drop l.group-index l.groups))
    ≡ string_bytes l.initial.text ++ lines_of_names (seen l.linked) l.first (names_of_groups l.groups))
    × (l.next + length (names_of_groups (drop l.group-index l.groups)) ≡ l.first + length (names_of_groups l.groups))
