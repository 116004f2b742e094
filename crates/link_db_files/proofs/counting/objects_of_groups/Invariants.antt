use Rattle.std.proofs.Common.{◌≡◌, ◌+◌, drop, length}
use Rattle.link_db_files.specs.Inputs.{objects_in}
use Rattle.link_db_files.proofs.counting.objects_of_groups.Given as goal

abbrev pub invariant-loop-group : goal.invariant-loop-group
invariant-loop-group g l = l.count + length (objects_in (drop l.group-index l.groups)) ≡ length (objects_in l.groups)
