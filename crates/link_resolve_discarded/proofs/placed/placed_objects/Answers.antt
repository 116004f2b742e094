use Rattle.std.proofs.Common.{map}
use Rattle.std.specs.List.{enumerate_from}
use Rattle.link_db_files.specs.Inputs.{objects_in}
use Rattle.link_resolve_discarded.proofs.Placing.{placed-more}
use Rattle.link_resolve_discarded.proofs.placed.placed_objects.Goals as goal

-- one group more
pub loop-group-preserved : goal.loop-group-preserved
loop-group-preserved g c =
    let groups = c.args.groups.now in
    placed-more groups c.loop-group.group-index c.group-item.result (map (λ o. o.parsed) c.objects_of.result.now)
    c.loop-group.placed.items c.push_objects.new.placed.items (enumerate_from 0 (objects_in groups))
    c.loop-group-test.true c.group-item.is c.objects_of.ensures c.in_ok-push_objects.ensures c.loop-group.invariant
