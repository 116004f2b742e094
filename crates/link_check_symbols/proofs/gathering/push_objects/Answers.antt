use Rattle.std.proofs.Common.{◌≡◌, ◌∙◌, ◌<◌, Some, arith, refl, slice_get, length}
use Rattle.std.proofs.lemmas.Option.{slice_get_read}
use Rattle.link_check_symbols.proofs.Filing.{objects-grow}
use Rattle.link_check_symbols.proofs.gathering.push_objects.Goals as goal

pub loop-place-preserved : goal.loop-place-preserved
loop-place-preserved g c =
    let objects = c.args.objects.now in
    let o = c.index-objects-place.result in
    let within : c.loop-place.place < length objects = omega arith in
    let at : slice_get objects c.loop-place.place ≡ Some o = slice_get_read objects (length objects) c.loop-place.place o refl within c.index-objects-place.is in
    c.in_ok-push_object.ensures ∙ objects-grow objects c.loop-place.place o c.args.symbols.now.items c.loop-place.symbols.items at c.loop-place.invariant
