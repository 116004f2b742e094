use Rattle.std.proofs.Common.{◌≡◌, ◌++◌, drop}
use Rattle.link_resolve_requests.specs.Names.{forced_in}
use Rattle.link_resolve_requests.proofs.names.push_forced.Given as goal

-- the names so far, and those of the definitions that are left
abbrev pub invariant-loop-definition : goal.invariant-loop-definition
invariant-loop-definition l = l.names.items ++ forced_in (drop l.definition-index l.definitions) ≡ l.initial.names.items ++ forced_in l.definitions
