use Rattle.std.proofs.Common.{◌∙◌, ◌+◌}
use Rattle.link_resolve_files.specs.Resolving.{num_objects}
use Rattle.link_resolve_files.proofs.Joined.{group-more}
use Rattle.link_resolve_files.proofs.resolving.resolved_groups.Goals as goal

-- one group more
pub loop-group-preserved : goal.loop-group-preserved
loop-group-preserved g c =
    let n = c.loop-group.invariant.0 in
    let before = c.loop-group.invariant.1 in
    let marks = c.args.loaded.now in
    let group = c.group-item.result in (
      n + num_objects group,
      (
        c.in_ok-files.ensures.rest marks n before.0,
        group-more marks c.args.kept.now n c.loop-group.group-index group c.args.groups.now c.loop-group.resolved.items c.push.new.self.items (record { files = c.in_ok-files.files }) c.loop-group-test.true c.group-item.is
            c.in_ok-push.ensures.items (c.in_ok-files.ensures.files marks n before.0)
            ∙ before.1,
      ),
    )
