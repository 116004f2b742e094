use Rattle.std.proofs.Common.{◌≡◌, ◌++◌, take}
use Rattle.link_rules.specs.Comdat.{groups_of}
use Rattle.link_check_groups.proofs.group.push_groups.Given as goal

abbrev pub invariant-loop-index : goal.invariant-loop-index
invariant-loop-index g l = l.groups.items ≡ l.initial.groups.items ++ take l.index (groups_of (l.place, l.object))
