use Rattle.std.proofs.Common.{◌≡◌, ◌++◌, drop}
use Rattle.link_resolve_requests.proofs.names.push_names.Given as goal

-- the names so far, and those that are left
abbrev pub invariant-loop-name : goal.invariant-loop-name
invariant-loop-name l = l.names.items ++ drop l.name-index l.more ≡ l.initial.names.items ++ l.more
