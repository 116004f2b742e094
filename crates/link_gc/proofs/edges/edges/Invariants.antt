use Rattle.std.proofs.Common.{◌≡◌, [], map, take}
use Rattle.link_core_answer.specs.Seen.{seen}
use Rattle.link_closure.specs.Graph.{AreInRange}
use Rattle.link_gc.specs.Numbering.{AreNumbersOf, IsOf, placed_number}
use Rattle.link_rules.specs.Selection.{Selection}
use Rattle.link_gc.proofs.AllEdges.{IsEdgeOf}
use Rattle.link_gc.proofs.Gathered.{AreGathered}
use Rattle.link_gc.proofs.edges.edges.Given as goal

-- the edges of the objects so far
abbrev pub invariant-loop-object : goal.invariant-loop-object
invariant-loop-object g l = record {
  edges : (s : Selection) → IsOf s (seen l.linked) → AreNumbersOf s l.numbers.spans.items l.numbers.groups.now → l.placed ≡ map (λ x. placed_number s x.origin) s.stage.symbols
      → AreGathered (IsEdgeOf s) [] (take l.object-index l.objects) l.edges.items;
  in_range : AreInRange l.numbers.count l.edges.items;
}
