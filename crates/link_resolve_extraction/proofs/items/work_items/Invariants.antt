use Rattle.std.proofs.Common.{◌≡◌, ◌++◌, drop}
use Rattle.link_resolve_extraction.specs.Items.{all_items}
use Rattle.link_resolve_extraction.proofs.items.work_items.Given as goal

-- the items so far, and those of the objects that are left
abbrev pub invariant-loop-place : goal.invariant-loop-place
invariant-loop-place g l = l.items.items ++ all_items l.place (drop l.place l.objects) ≡ all_items 0 l.objects
