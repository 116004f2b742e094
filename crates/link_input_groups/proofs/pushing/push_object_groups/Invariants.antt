use Rattle.std.proofs.Common.{◌≡◌, ◌+◌, ◌≤◌, ◌++◌, length, map}
use Rattle.std.specs.List.{flat_map, AllByRecursion}
use Rattle.std.specs.Vec.Iter.{into_iter_items}
use Rattle.link_input.specs.InputFiles.{object, symbol_count, section_count}
use Rattle.link_input.specs.Limits.{total}
use Rattle.link_input_groups.specs.GroupsAdded.{Adds}
use Rattle.link_input_groups.proofs.pushing.push_object_groups.Given as goal

abbrev pub invariant-loop-objects : goal.invariant-loop-objects
invariant-loop-objects g l = record {
  adds : Adds (l.fn.held ++ l.fn.groups.items) (l.fn.held ++ l.groups.items) l.fn.next l.next (map (λ cut. map object cut.items) l.yielded);
  few : AllByRecursion (λ cut. length cut.items ≤ 256) (into_iter_items l.objects-iterator);
  place : length l.groups.items + length (into_iter_items l.objects-iterator) ≡ length l.fn.groups.items + length l.fn.cuts.items;
  symbols : l.next.symbols + total symbol_count (flat_map (λ cut. map object cut.items) (into_iter_items l.objects-iterator)) ≡ l.fn.next.symbols + total symbol_count (flat_map (λ cut. map object cut.items) l.fn.cuts.items);
  sections : l.next.sections + total section_count (flat_map (λ cut. map object cut.items) (into_iter_items l.objects-iterator)) ≡ l.fn.next.sections + total section_count (flat_map (λ cut. map object cut.items) l.fn.cuts.items);
}
