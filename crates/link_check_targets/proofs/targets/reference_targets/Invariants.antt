use Rattle.std.proofs.Common.{◌≡◌, ◌++◌, [], map, take}
use Rattle.link_check_targets.specs.Tables.{reference_target}
use Rattle.link_check_targets.proofs.targets.reference_targets.Given as goal

abbrev pub invariant-loop-symbol : goal.invariant-loop-symbol
invariant-loop-symbol l = l.targets.items ≡ [] ++ map (reference_target l.weak_overrides_common l.names) (take l.symbol-index l.symbols)
