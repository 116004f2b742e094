use Rattle.std.proofs.Common.{◌≡◌, map, take}
use Rattle.link_core_answer.specs.Seen.{seen}
use Rattle.link_closure.specs.Graph.{AreInRange}
use Rattle.link_db_symbols.specs.Lookups.{AreBelow}
use Rattle.link_gc.specs.Numbering.{AreNumbersOf, IsOf, placed_number}
use Rattle.link_rules.specs.Selection.{Selection}
use Rattle.link_rules.specs.World.{first_symbol_of}
use Rattle.link_gc.proofs.Gathered.{AreGathered, IsReferenceOf}
use Rattle.link_gc.proofs.edges.push_references.Given as goal

-- the edges at the start, and those of the references so far
abbrev pub invariant-loop-reference : goal.invariant-loop-reference
invariant-loop-reference g l = record {
  edges : (s : Selection) → IsOf s (seen l.linked) → AreNumbersOf s l.numbers.spans.items l.numbers.groups.now
      → l.placed ≡ map (λ x. placed_number s x.origin) s.stage.symbols → l.first ≡ first_symbol_of s.stage l.object.0
      → AreGathered (IsReferenceOf s l.object.0) l.initial.edges.items (take l.reference-index l.reference-items) l.edges.items;
  in_range : AreBelow l.numbers.count l.placed → AreInRange l.numbers.count l.initial.edges.items → AreInRange l.numbers.count l.edges.items;
}
