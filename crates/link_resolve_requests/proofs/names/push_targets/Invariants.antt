use Rattle.std.proofs.Common.{◌≡◌, ◌++◌, drop}
use Rattle.link_resolve_requests.specs.Names.{targets_in}
use Rattle.link_resolve_requests.proofs.names.push_targets.Given as goal

-- the names so far, and those of the definitions that are left
abbrev pub invariant-loop-definition : goal.invariant-loop-definition
invariant-loop-definition l = l.names.items ++ targets_in (drop l.definition-index l.definitions) ≡ l.initial.names.items ++ targets_in l.definitions
