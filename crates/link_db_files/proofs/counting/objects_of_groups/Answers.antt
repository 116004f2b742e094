use Rattle.std.proofs.Common.{arith, length}
use Rattle.link_db_files.specs.Inputs.{object_of, objects_in}
use Rattle.link_db_files.proofs.Picking.{left-picked}
use Rattle.link_db_files.proofs.counting.objects_of_groups.Goals as goal

pub overflow_add-count : goal.overflow_add-count
overflow_add-count g c =
    let loop = c.loop-group in
    let left = left-picked object_of c.args.groups.now loop.group-index c.group-item.result loop.count c.objects_of_group-count.result (length (objects_in c.args.groups.now)) c.loop-group-test.true c.group-item.is c.objects_of_group-count.ensures loop.invariant in
    omega (arith, left, c.requires)

pub loop-group-preserved : goal.loop-group-preserved
loop-group-preserved g c =
    let loop = c.loop-group in
    left-picked object_of c.args.groups.now loop.group-index c.group-item.result loop.count c.objects_of_group-count.result (length (objects_in c.args.groups.now)) c.loop-group-test.true c.group-item.is c.objects_of_group-count.ensures loop.invariant
