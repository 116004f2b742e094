use Rattle.std.proofs.Common.{◌≡◌, ◌++◌, drop}
use Rattle.link_db_files.specs.Inputs.{scripts_in}
use Rattle.link_resolve_requests.specs.Names.{script_targets}
use Rattle.link_resolve_requests.proofs.names.push_group_targets.Given as goal

-- the names so far, and those of the groups that are left
abbrev pub invariant-loop-group : goal.invariant-loop-group
invariant-loop-group g l = l.names.items ++ script_targets (scripts_in (drop l.group-index l.groups)) ≡ l.initial.names.items ++ script_targets (scripts_in l.groups)
