use Rattle.std.proofs.Common.{◌≡◌, ℕ, length, take}
use Rattle.link_closure.specs.Graph.{IsEdge, Leads, AreBelow}
use Rattle.link_closure.proofs.rows_of.Given as goal

-- the rows are those of the edges so far
abbrev pub invariant-loop-edge : goal.invariant-loop-edge
invariant-loop-edge l = record {
  each : length l.rows.items ≡ l.count;
  listed : (f g : ℕ) → IsEdge (take l.edge-index l.edges) f g → Leads l.rows.items f g;
  only : (f g : ℕ) → Leads l.rows.items f g → IsEdge (take l.edge-index l.edges) f g;
  below : AreBelow l.count l.rows.items;
}
