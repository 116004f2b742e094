use Rattle.std.proofs.Common.{ℕ, [], take}
use Rattle.std.specs.List.{Contains}
use Rattle.link_closure.specs.Graph.{Leads}
use Rattle.link_closure.specs.Levels.{Layered}
use Rattle.link_closure.proofs.breadth_first.next_layer.Given as goal

-- what the numbers of the layer so far lead to is reached
abbrev pub invariant-loop-number : goal.invariant-loop-number
invariant-loop-number l = Layered (λ g. (f : ℕ) × Contains (take l.number-index l.layer) f × Leads l.graph f g) l.level l.initial.levels l.levels [] l.next.items
