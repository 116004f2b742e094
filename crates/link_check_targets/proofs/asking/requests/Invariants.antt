use Rattle.std.proofs.Common.{◌≡◌, take}
use Rattle.link_rules.specs.Places.{each_from}
use Rattle.link_check_targets.specs.Tables.{request_by, target_at}
use Rattle.link_check_targets.proofs.asking.requests.Given as goal

abbrev pub invariant-loop-id : goal.invariant-loop-id
invariant-loop-id l = l.requests.items ≡ each_from (λ s u. request_by l.symbols u (target_at l.targets s)) 0 (take l.id l.symbols)
