use Rattle.std.proofs.Common.{◌≡◌, ◌++◌, [], take}
use Rattle.std.specs.List.{flat_map}
use Rattle.link_rules.specs.Comdat.{comdats_among}
use Rattle.link_check_groups.specs.Groups.{claims_of}
use Rattle.link_check_groups.proofs.groups.LoadedGroups.kept_comdats.Given as goal

abbrev pub invariant-loop-group : goal.invariant-loop-group
invariant-loop-group l = l.kept.items ≡ [] ++ flat_map (claims_of (comdats_among l.self)) (take l.group-index l.groups)
