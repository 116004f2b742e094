use Rattle.std.proofs.Common.{map, take}
use Rattle.std.specs.List.{AllZip}
use Rattle.link_input.specs.NameBlock.{IsAt}
use Rattle.link_input.proofs.name_block.put_names.Given as goal

abbrev pub invariant-loop-entry : goal.invariant-loop-entry
invariant-loop-entry l = AllZip (IsAt l.block.items) l.spans.items (map (λ e. e.name) (take l.entry-index l.entries))
