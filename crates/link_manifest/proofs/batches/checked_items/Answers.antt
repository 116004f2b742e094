use Rattle.link_manifest.proofs.PassingBatches.{one_more-batch}
use Rattle.link_manifest.proofs.batches.checked_items.Goals as goal

pub loop-place-preserved : goal.loop-place-preserved
loop-place-preserved g c =
    let more = one_more-batch g.P.Platform.HAS_NULL_SYMBOL_ENTRY c.loop-place.place-iterator.count c.loop-place.checked.items c.in-Some.batch
    c.next.new.self.iter.rest.items c.in_ok-checked_item.ensures.passes in
    rw (c.in_ok-push.ensures.items, c.in_ok-checked_item.ensures.same, c.in-Some.ensures.steps.2, more)
    (rw c.in-Some.ensures.steps.0.0 at c.loop-place.invariant)
