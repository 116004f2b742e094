use Rattle.std.proofs.Common.{◌≡◌, ◌+◌, ◌≤◌, length}
use Rattle.std.specs.Prelude.{count_by, is_none}
use Rattle.link_closure.specs.Graph.{IsMarked, Leads}
use Rattle.link_closure.proofs.Layers.{AreUpTo}
use Rattle.link_closure.proofs.breadth_first.levels_over_rows.Given as goal

abbrev pub invariant-loop-alloc : goal.invariant-loop-alloc
invariant-loop-alloc l = record {
  each : length l.levels.items ≡ length l.roots;
  known : AreUpTo (IsMarked l.roots) (Leads l.graph) l.level l.levels.items l.layer.items;
  few : l.level + count_by is_none l.levels.items + length l.layer.items ≤ length l.roots;
}

abbrev pub decreases-loop-alloc : goal.decreases-loop-alloc
decreases-loop-alloc l = count_by is_none l.levels.items + length l.layer.items
