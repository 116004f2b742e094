use Rattle.std.proofs.Common.{map, take}
use Rattle.std.specs.List.{AllZip}
use Rattle.link_input.specs.NameBlock.{IsVersionAt, Keeps}
use Rattle.link_input.proofs.name_block.put_versions.Given as goal

abbrev pub invariant-loop-entry : goal.invariant-loop-entry
invariant-loop-entry l = record {
  put : AllZip (IsVersionAt l.block.items) l.spans.items (map (λ e. e.version) (take l.entry-index l.entries));
  kept : Keeps l.initial.block.items l.block.items;
}
