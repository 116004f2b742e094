use Rattle.std.proofs.Common.{◌≡◌, ◌++◌, map}
use Rattle.std.specs.List.{range_with_len}
use Rattle.link_resolve_extraction.specs.Items.{part_at}
use Rattle.link_resolve_extraction.proofs.items.push_parts.Given as goal

-- the items of the parts so far
abbrev pub invariant-loop-part : goal.invariant-loop-part
invariant-loop-part l = l.items.items ≡ l.initial.items.items ++ map (part_at l.object) (range_with_len 0 l.part)
