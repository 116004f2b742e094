use Rattle.link_closure.specs.Graph.{AreInRange}
use Rattle.link_tests_claim.proofs.pool.edges_of.Given as goal

abbrev pub invariant-loop-item : goal.invariant-loop-item
invariant-loop-item l = AreInRange l.plan.files l.edges.items
