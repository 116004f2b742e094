use Rattle.std.proofs.Common.{◌≡◌, ◌++◌, drop, map}
use Rattle.link_resolve_requests.specs.Names.{script_targets}
use Rattle.link_resolve_requests.proofs.names.push_script_targets.Given as goal

-- the names so far, and those of the linker scripts that are left
abbrev pub invariant-loop-script : goal.invariant-loop-script
invariant-loop-script l =
    l.names.items ++ script_targets (map (λ s. s.parsed) (drop l.script-index l.scripts)) ≡ l.initial.names.items ++ script_targets (map (λ s. s.parsed) l.scripts)
