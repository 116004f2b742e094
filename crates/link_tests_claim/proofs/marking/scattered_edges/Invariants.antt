use Rattle.link_closure.specs.Graph.{AreInRange}
use Rattle.link_tests_claim.proofs.marking.scattered_edges.Given as goal

abbrev pub invariant-loop-step : goal.invariant-loop-step
invariant-loop-step l = AreInRange l.count l.edges.items
