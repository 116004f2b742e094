use Rattle.std.proofs.Common.{◌≡◌, ◌++◌, drop}
use Rattle.link_db_files.specs.Asked.{groups_asked}
use Rattle.link_db_files.proofs.asked.groups_asked.Given as goal

abbrev pub invariant-loop-group : goal.invariant-loop-group
invariant-loop-group g l = l.asked.items ++ groups_asked (drop l.group-index l.groups) ≡ groups_asked l.groups
