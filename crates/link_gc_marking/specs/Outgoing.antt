-- The edges that leave a node.
use Rattle.std.specs.Prelude.{◌≡◌, ◌≤◌, ℕ, List, length, map, slice_range}
use Rattle.link_closure.specs.declared.Edge.{Edge}
use Rattle.link_gc_marking.specs.declared.outgoing.OutgoingEdges.{OutgoingEdges}
use Rattle.link_gc_marking.specs.Marking.{targets_from}

-- the edges at these places lead to all to which an edge leads from the node, each as often
pub record AreOutgoing (edges : List Edge) (node : ℕ) (outgoing : OutgoingEdges) : Type 0 where
  pub rising : outgoing.start ≤ outgoing.end
  pub within : outgoing.end ≤ length edges
  pub targets : map (λ e. e.to) (slice_range edges outgoing.start outgoing.end) ≡ targets_from edges node
