use Rattle.std.proofs.Common.{◌≡◌, take}
use Rattle.link_resolve_reasons.specs.Told.{step_keys}
use Rattle.link_resolve_reasons.proofs.reasons.step_keys.Given as goal

abbrev pub invariant-loop-request : goal.invariant-loop-request
invariant-loop-request l = l.keys.items ≡ step_keys l.levels (take l.request-index l.requests)
