use Rattle.std.proofs.Common.{◌≡◌, ◌+◌, ◌<◌, ◌^◌, ◌++◌, [], map}
use Rattle.std.specs.Vec.Iter.{into_iter_items}
use Rattle.link_input_groups.specs.Cut.{symbols_in}
use Rattle.link_input_groups.proofs.Cutting.{cut}
use Rattle.link_input_groups.proofs.cut.cut_objects.Given as goal

abbrev pub invariant-loop-object : goal.invariant-loop-object
invariant-loop-object g l = record {
  cuts : map (λ c. c.items) l.cuts.items ++ cut l.files l.limit l.current.items l.symbols (into_iter_items l.object-iterator) ≡ cut l.files l.limit [] 0 l.fn.objects.items;
  small : l.symbols + symbols_in (into_iter_items l.object-iterator) < 2 ^ 32;
}
