use Rattle.std.proofs.Common.{◌≡◌, ap, arith, length, ◌∙◌, ◌++◌}
use Rattle.link_verdef.specs.Strings.{place_of}
use Rattle.link_verdef.proofs.Places.{places_more, strings_of_more}
use Rattle.link_verdef.proofs.write.strings_of.Goals as goal

pub loop-item-preserved : goal.loop-item-preserved
loop-item-preserved c =
    let place : c.len.result ≡ place_of c.args.items.now c.loop-item.item-index = omega (arith, ap length c.loop-item.invariant.bytes) in
    let name = c.in_ok-extend_from_slice.ensures.items ∙ ap (λ xs. c.loop-item.bytes.items ++ xs) c.as_slice.ensures in
    record {
      bytes = strings_of_more _ _ _ _ _ _ c.loop-item-test.true c.item-item.is c.loop-item.invariant.bytes name c.in_ok-push-2.ensures.items;
      places = places_more _ _ _ _ _ c.loop-item.invariant.places place c.in_ok-push.ensures.items;
    }
