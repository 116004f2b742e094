use Rattle.std.proofs.Common.{◌≡◌, ◌+◌, ℕ, List, ◌∷◌, [], ◌++◌, take, get_or, arith}
use Rattle.std.specs.List.{Contains}
use Rattle.std.proofs.lemmas.Grind.{common_steps}
use Rattle.link_closure.proofs.Layers.{layered-none, layered-push, nothing-in}
use Rattle.link_closure.proofs.breadth_first.reach_row.Goals as goal

pub loop-number-init : goal.loop-number-init
loop-number-init c = layered-none (Contains []) c.args.level c.args.levels.now c.args.layer.now.items nothing-in

pub loop-number-preserved : goal.loop-number-preserved
loop-number-preserved c =
    let row : List ℕ = c.args.row.now in
    let i : ℕ = c.loop-number.number-index in
    let next : take (i + 1) row ≡ take i row ++ get_or row i 0 ∷ [] = grind (arith, common_steps) in
    rw next (layered-push (take i row) (get_or row i 0) c.args.level c.args.levels.now c.loop-number.levels c.reach_one.new.levels
    c.args.layer.now.items c.loop-number.layer.items c.reach_one.new.layer.items c.loop-number.invariant c.in_ok-reach_one.ensures)

pub returns : goal.returns
returns c =
    let all : take c.loop-number.number-index c.args.row.now ≡ c.args.row.now = grind (arith, common_steps) in
    rw all at c.loop-number.invariant
