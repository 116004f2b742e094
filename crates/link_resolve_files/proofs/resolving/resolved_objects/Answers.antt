use Rattle.std.proofs.Common.{◌≡◌, ◌∙◌, ◌+◌, ℕ, subst, arith}
use Rattle.link_resolve_files.specs.Places.{AreFrom}
use Rattle.link_resolve_files.proofs.Joined.{object-more}
use Rattle.link_resolve_files.proofs.resolving.resolved_objects.Goals as goal

-- one object more
pub loop-object-preserved : goal.loop-object-preserved
loop-object-preserved g c = λ marks n from.
    let before = c.loop-object.invariant marks n from in
    let k = c.loop-object.object-index in
    let place = c.next_loaded.ensures.place marks (n + k) before.0 in
    let next : n + k + 1 ≡ n + (k + 1) = omega arith in (
      subst (λ (m : ℕ). AreFrom marks m c.next_loaded.new.self) next (c.next_loaded.ensures.rest marks (n + k) before.0),
      object-more marks c.args.kept.now n k c.object-item.result c.args.objects.now c.loop-object.files.items c.push.new.self.items c.resolved_object-file.result c.loop-object-test.true c.object-item.is c.in_ok-push.ensures.items
          (c.resolved_object-file.ensures marks (n + k) place)
          ∙ before.1,
    )
