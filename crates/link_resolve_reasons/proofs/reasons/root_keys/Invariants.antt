use Rattle.std.proofs.Common.{◌≡◌, take}
use Rattle.link_resolve_reasons.specs.Told.{root_keys}
use Rattle.link_resolve_reasons.proofs.reasons.root_keys.Given as goal

abbrev pub invariant-loop-root : goal.invariant-loop-root
invariant-loop-root l = l.keys.items ≡ root_keys (take l.root-index l.roots)
