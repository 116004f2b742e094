use Rattle.std.proofs.Common.{◌≡◌, ◌+◌, drop, length}
use Rattle.link_report.specs.Runs.{names_of_groups}
use Rattle.link_report.proofs.runs.symbols_of_groups.Given as goal

-- the symbols so far, and those of the groups that are left
abbrev pub invariant-loop-group : goal.invariant-loop-group
invariant-loop-group g l = l.count + length (names_of_groups (drop l.group-index l.groups)) ≡ length (names_of_groups l.groups)
