use Rattle.std.proofs.Common.{◌≡◌, take}
use Rattle.link_names.specs.Names.{value_in}
use Rattle.link_rules.specs.Places.{Bytes}
use Rattle.link_check_groups.specs.Groups.{first_comdat}
use Rattle.link_check_groups.proofs.first.first_comdats.Given as goal

abbrev pub invariant-loop-group : goal.invariant-loop-group
invariant-loop-group l = (signature : Bytes) → value_in l.first signature ≡ first_comdat (take l.group-index l.groups) signature
