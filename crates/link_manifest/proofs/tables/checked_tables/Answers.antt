use Rattle.link_manifest.proofs.PassingTables.{one_more-passes}
use Rattle.link_manifest.proofs.tables.checked_tables.Goals as goal

pub loop-place-preserved : goal.loop-place-preserved
loop-place-preserved g c =
    let more = one_more-passes g.P.Platform.HAS_NULL_SYMBOL_ENTRY c.loop-place.place-iterator.count c.loop-place.checked.items c.in-Some.object
    c.next.new.self.iter.rest.items c.in_ok-checked_object.ensures.passes in
    rw (c.in_ok-push.ensures.items, c.in_ok-checked_object.ensures.same, c.in-Some.ensures.steps.2, more)
    (rw c.in-Some.ensures.steps.0.0 at c.loop-place.invariant)
