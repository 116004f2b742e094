use Rattle.link_closure.specs.Graph.{AreInRange}
use Rattle.link_tests_claim.proofs.marking.edges_between.Given as goal

abbrev pub invariant-loop-from : goal.invariant-loop-from
invariant-loop-from l = AreInRange l.count l.edges.items
