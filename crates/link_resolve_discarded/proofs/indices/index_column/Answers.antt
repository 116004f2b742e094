use Rattle.std.proofs.Common.{◌≡◌, ◌<◌, ℕ, length, get_or, ap, sym, arith}
use Rattle.std.proofs.lemmas.Grind.{common_steps}
use Rattle.link_input.specs.ObjectFile.{ObjectFile}
use Rattle.link_resolve_comdat.proofs.Rising.{rising}
use Rattle.link_resolve_discarded.proofs.Column.{column-more}
use Rattle.link_resolve_discarded.proofs.indices.index_column.Goals as goal

-- one index more
pub loop-index-preserved : goal.loop-index-preserved
loop-index-preserved g c =
    let objects = c.args.objects.now in
    let column = c.loop-index.indices.items in
    let i = c.loop-index.index in
    let o = c.index-objects-index.result in
    let lt : i < length objects = c.loop-index-test.true in
    let is : get_or objects i o ≡ o = sym c.index-objects-index.is in
    let place : c.object.inside.place ≡ o.0 = ap (λ (x : ℕ × ObjectFile). x.0) c.object.view_is in
    let below : o.0 < c.args.places = rw is at (c.requires.below i o lt) in
    let inside : o.0 < length column = omega (arith, below, c.loop-index.invariant.long) in
    record {
      long = grind (arith, common_steps, c.loop-index.invariant.long);
      indices = λ f. rw place (column-more objects column i f o (rising objects c.requires.rise) lt is inside (c.loop-index.invariant.indices f));
    }
