use Rattle.link_closure.specs.Graph.{AreInRange}
use Rattle.link_tests_core.proofs.graphs.fan.Given as goal

abbrev pub invariant-loop-from : goal.invariant-loop-from
invariant-loop-from l = AreInRange l.count l.edges.items
