use Rattle.std.proofs.Common.{◌≡◌, ◌<◌, ◌+◌, ℕ, List, ◌∷◌, [], ◌++◌, length, take, get_or, Some, sym, arith}
use Rattle.std.specs.List.{slice_get}
use Rattle.std.proofs.lemmas.Grind.{common_steps}
use Rattle.std.proofs.lemmas.Option.{slice_get_read}
use Rattle.link_closure.proofs.Layers.{layered-none, layered-row, nothing-in}
use Rattle.link_closure.proofs.breadth_first.next_layer.Goals as goal

pub loop-number-init : goal.loop-number-init
loop-number-init c = rw c.new-next.ensures.items (layered-none _ c.args.level c.args.levels.now [] (λ g from. nothing-in from.0 from.1))

pub loop-number-preserved : goal.loop-number-preserved
loop-number-preserved c =
    let layer : List ℕ = c.args.layer.now in
    let i : ℕ = c.loop-number.number-index in
    let next : take (i + 1) layer ≡ take i layer ++ get_or layer i 0 ∷ [] = grind (arith, common_steps) in
    let inside : get_or layer i 0 < length c.args.levels.now = c.requires.layer i 0 (c.loop-number-test.true) in
    let at : slice_get c.args.graph.now (get_or layer i 0) ≡ Some c.index-graph-number.result =
    slice_get_read c.args.graph.now (length c.args.levels.now) (get_or layer i 0) c.index-graph-number.result (sym c.requires.same_length) inside c.index-graph-number.is in
    rw next (layered-row c.args.graph.now (take i layer) (get_or layer i 0) c.index-graph-number.result c.args.level
    c.args.levels.now c.loop-number.levels c.reach_row.new.levels [] c.loop-number.next.items c.reach_row.new.layer.items
    at c.loop-number.invariant (rw c.deref.ensures.value at c.in_ok-reach_row.ensures))

pub returns : goal.returns
returns c =
    let all : take c.loop-number.number-index c.args.layer.now ≡ c.args.layer.now = grind (arith, common_steps) in
    rw all at c.loop-number.invariant
