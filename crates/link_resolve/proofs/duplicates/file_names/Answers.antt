use Rattle.std.proofs.Common.{map}
use Rattle.link_db_files.specs.Inputs.{objects_in}
use Rattle.link_resolve.proofs.Lines.{names-more}
use Rattle.link_resolve.proofs.duplicates.file_names.Goals as goal

-- one group more
pub loop-group-preserved : goal.loop-group-preserved
loop-group-preserved g c =
    let groups = c.args.groups.now in
    names-more groups c.loop-group.group-index c.group-item.result (map (λ o. o.parsed) c.objects_of.result.now)
    c.loop-group.names.items c.push_file_names.new.names.items (map (λ o. o.input) (objects_in groups))
    c.loop-group-test.true c.group-item.is c.objects_of.ensures c.in_ok-push_file_names.ensures c.loop-group.invariant
