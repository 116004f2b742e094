use Rattle.std.proofs.Common.{◌≡◌, ◌<◌, [], length, true, false, arith}
use Rattle.link_closure.specs.Closure.{is_marked}
use Rattle.link_closure.specs.Graph.{IsMarked}
use Rattle.link_closure.proofs.Layers.{layered-none, layered-root, layered-no_root, layered-same, marked-within}
use Rattle.link_closure.proofs.breadth_first.root_layer.Goals.{then-root+in_ok-reach_one, else-root}
use Rattle.link_closure.proofs.breadth_first.root_layer.Goals as goal

pub loop-number-init : goal.loop-number-init
loop-number-init c = rw c.new-layer.ensures.items (layered-none _ 0 c.args.levels.now [] (λ f it. absurd (let h = it.0 in omega arith)))

pub loop-number-preserved : goal.loop-number-preserved
loop-number-preserved c = elim c.if-root.branch [
  | then-root+in_ok-reach_one w ↦
      let marked : is_marked c.args.roots.now c.loop-number.number ≡ true = w.if-root.true in
      rw (w.levels-is, w.layer-is) (layered-root c.args.roots.now c.loop-number.number 0 c.args.levels.now c.loop-number.levels w.reach_one.new.levels
      [] c.loop-number.layer.items w.reach_one.new.layer.items marked c.loop-number.invariant w.in_ok-reach_one.ensures)
  | else-root w ↦
      let unmarked : is_marked c.args.roots.now c.loop-number.number ≡ false = w.if-root.false in
      rw (w.levels-is, w.layer-is) (layered-no_root c.args.roots.now c.loop-number.number 0 c.args.levels.now c.loop-number.levels
      [] c.loop-number.layer.items unmarked c.loop-number.invariant)
]

pub returns : goal.returns
returns c =
    layered-same (λ f. (f < c.loop-number.number) × IsMarked c.args.roots.now f) (IsMarked c.args.roots.now) 0 c.args.levels.now c.loop-number.levels
    [] c.loop-number.layer.items (λ f it. it.1)
    (λ f marked. (let inside : f < length c.args.roots.now = marked-within c.args.roots.now f marked in omega arith, marked))
    c.loop-number.invariant
