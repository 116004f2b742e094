use Rattle.std.proofs.Common.{◌≡◌, ◌+◌, ◌≤◌, ◌++◌, All, drop, map}
use Rattle.link_input.specs.InputFiles.{sections_of}
use Rattle.link_input.specs.Limits.{total}
use Rattle.link_gc.specs.Numbering.{spans_from}
use Rattle.link_gc.proofs.numbers.section_spans.Given as goal

-- the numbers so far, and those of the objects that are left
abbrev pub invariant-loop-object : goal.invariant-loop-object
invariant-loop-object g l = record {
  spans : l.spans.items ++ spans_from l.loaded l.count (drop l.object-index l.objects) ≡ spans_from l.loaded 0 l.objects;
  count : l.count + total sections_of (map (λ o. o.1) (drop l.object-index l.objects)) ≡ total sections_of (map (λ o. o.1) l.objects);
  within : All (λ s. s.start + s.len ≤ l.count) l.spans.items;
}
