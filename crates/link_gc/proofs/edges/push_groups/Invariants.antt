use Rattle.std.proofs.Common.{take}
use Rattle.link_closure.specs.Graph.{AreInRange}
use Rattle.link_gc.specs.Numbering.{AreNumbersOf}
use Rattle.link_rules.specs.Selection.{Selection}
use Rattle.link_gc.proofs.Gathered.{AreGathered, IsGroupOf}
use Rattle.link_gc.proofs.edges.push_groups.Given as goal

-- the edges at the start, and those of the groups so far
abbrev pub invariant-loop-group : goal.invariant-loop-group
invariant-loop-group g l = record {
  edges : (s : Selection) → AreNumbersOf s l.numbers.spans.items l.numbers.groups.now → AreGathered (IsGroupOf s l.object.0) l.initial.edges.items (take l.group-index l.group-items) l.edges.items;
  in_range : AreInRange l.numbers.count l.initial.edges.items → AreInRange l.numbers.count l.edges.items;
}
