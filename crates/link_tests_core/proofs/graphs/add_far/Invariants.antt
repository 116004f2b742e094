use Rattle.link_closure.specs.Graph.{AreInRange}
use Rattle.link_tests_core.proofs.graphs.add_far.Given as goal

abbrev pub invariant-loop-step : goal.invariant-loop-step
invariant-loop-step l = AreInRange l.count l.edges.items
