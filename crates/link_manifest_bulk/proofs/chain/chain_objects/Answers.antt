use Rattle.std.proofs.Common.{arith, refl}
use Rattle.std.proofs.lemmas.List.FromFn.{map-range_with_len_more}
use Rattle.link_manifest_bulk.specs.Chain.{chain_object}
use Rattle.link_manifest_bulk.proofs.chain.chain_objects.Goals as goal

pub loop-place-preserved : goal.loop-place-preserved
loop-place-preserved c =
    let more = map-range_with_len_more (chain_object c.args.members) 0 c.loop-place.place c.loop-place.place (omega arith) in
    rw (c.in_ok-push.ensures.items, c.loop-place.invariant, c.in_ok-chain_object.ensures, more) refl
