use Rattle.std.proofs.Common.{arith, refl}
use Rattle.std.proofs.lemmas.List.FromFn.{map-range_with_len_more}
use Rattle.link_check_claims.specs.Claims.{is_claimed}
use Rattle.link_check.proofs.marking.claimed_marks.Goals as goal

pub loop-place-preserved : goal.loop-place-preserved
loop-place-preserved c =
    let more = map-range_with_len_more (is_claimed c.args.loaded.now) 0 c.loop-place.place c.loop-place.place (omega arith) in
    rw (c.in_ok-push.ensures.items, c.loop-place.invariant, c.is_ranked.ensures c.args.loaded.now c.in_ok-ranks.ensures, more) refl
