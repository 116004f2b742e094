use Rattle.std.proofs.Common.{◌≡◌, ◌++◌, [], take}
use Rattle.std.specs.List.{enumerate_from, flat_map}
use Rattle.link_check_groups.specs.Groups.{groups_if_loaded}
use Rattle.link_check_groups.proofs.groups.groups_among.Given as goal

abbrev pub invariant-loop-place : goal.invariant-loop-place
invariant-loop-place g l = l.groups.items ≡ [] ++ flat_map (groups_if_loaded l.marks) (take l.place (enumerate_from 0 l.objects))
