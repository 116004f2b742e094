use Rattle.std.proofs.Common.{◌≡◌, ◌+◌, drop, length}
use Rattle.link_db_files.specs.Inputs.{scripts_in}
use Rattle.link_db_files.proofs.counting.scripts_of_groups.Given as goal

abbrev pub invariant-loop-group : goal.invariant-loop-group
invariant-loop-group g l = l.count + length (scripts_in (drop l.group-index l.groups)) ≡ length (scripts_in l.groups)
