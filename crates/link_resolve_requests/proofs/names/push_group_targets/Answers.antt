use Rattle.std.proofs.Common.{◌++◌, map}
use Rattle.link_db_files.specs.Inputs.{scripts_in}
use Rattle.link_resolve_requests.specs.Names.{script_targets}
use Rattle.link_resolve_requests.proofs.Naming.{group-more}
use Rattle.link_resolve_requests.proofs.names.push_group_targets.Goals as goal

-- one group more
pub loop-group-preserved : goal.loop-group-preserved
loop-group-preserved g c =
    let groups = c.args.groups.now in
    group-more groups c.loop-group.group-index c.group-item.result (map (λ s. s.parsed) c.scripts_of.result.now)
    c.loop-group.names.items c.push_script_targets.new.names.items (c.args.names.now.items ++ script_targets (scripts_in groups))
    c.loop-group-test.true c.group-item.is c.scripts_of.ensures c.in_ok-push_script_targets.ensures c.loop-group.invariant
