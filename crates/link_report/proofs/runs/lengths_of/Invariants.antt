use Rattle.std.proofs.Common.{◌≤◌, drop, length}
use Rattle.link_report.specs.Runs.{names_of_groups}
use Rattle.link_report.proofs.runs.lengths_of.Given as goal

-- the groups that are left have no more symbols than all
abbrev pub invariant-loop-group : goal.invariant-loop-group
invariant-loop-group g l = length (names_of_groups (drop l.group-index l.groups)) ≤ length (names_of_groups l.groups)
