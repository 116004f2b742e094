use Rattle.std.proofs.Common.{◌<◌, []}
use Rattle.link_closure.specs.Graph.{IsMarked}
use Rattle.link_closure.specs.Levels.{Layered}
use Rattle.link_closure.proofs.breadth_first.root_layer.Given as goal

-- all roots so far are reached
abbrev pub invariant-loop-number : goal.invariant-loop-number
invariant-loop-number l = Layered (λ f. (f < l.number) × IsMarked l.roots f) 0 l.initial.levels l.levels [] l.layer.items
