use Rattle.std.proofs.Common.{◌≡◌, take}
use Rattle.link_rules.specs.Places.{each_from}
use Rattle.link_check_targets.specs.Tables.{hidden_target}
use Rattle.link_check_targets.proofs.hidden.hidden_targets.Given as goal

abbrev pub invariant-loop-place : goal.invariant-loop-place
invariant-loop-place l = l.targets.items ≡ each_from (λ s x. hidden_target l.weak_overrides_common l.names s) 0 (take l.place l.names.symbols)
