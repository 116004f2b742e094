use Rattle.std.proofs.Common.{◌≡◌, ◌≤◌, ◌∙◌, [], Some, ap, arith, length, refl, slice_get}
use Rattle.std.specs.List.{enumerate_from, flat_map}
use Rattle.std.proofs.lemmas.List.{take_all}
use Rattle.std.proofs.lemmas.List.FromFn.{length-enumerate_from}
use Rattle.std.proofs.lemmas.Option.{slice_get_read}
use Rattle.link_check_groups.specs.Groups.{groups_if_loaded}
use Rattle.link_check_groups.proofs.Listing.{flat-grow, groups-are, object-at}
use Rattle.link_check_groups.proofs.groups.groups_among.Goals as goal

pub loop-place-preserved : goal.loop-place-preserved
loop-place-preserved g c =
    let objects = c.args.objects.now in
    let i = c.loop-place.place in
    let o = c.index-objects-place.result in
    let at : slice_get objects i ≡ Some o = slice_get_read objects (length objects) i o refl (omega arith) c.index-objects-place.is in
    flat-grow (groups_if_loaded c.args.marks.now) (enumerate_from 0 objects) i (i, o) [] c.loop-place.groups.items c.push_if_loaded.new.groups.items
    (object-at objects i o at) c.loop-place.invariant c.in_ok-push_if_loaded.ensures

pub returns : goal.returns
returns g c =
    let objects = enumerate_from 0 c.args.objects.now in
    let all : length objects ≤ c.loop-place.place = omega (arith, length-enumerate_from 0 c.args.objects.now, c.loop-place-test.false) in
    c.loop-place.invariant ∙ (ap (flat_map (groups_if_loaded c.args.marks.now)) (take_all c.loop-place.place objects all) ∙ groups-are c.args.marks.now objects)
