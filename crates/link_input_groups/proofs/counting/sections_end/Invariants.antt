use Rattle.std.proofs.Common.{◌≡◌, ◌≤◌, drop, length}
use Rattle.link_input.specs.Limits.{total}
use Rattle.link_input_groups.proofs.counting.sections_end.Given as goal

abbrev pub invariant-loop-left : goal.invariant-loop-left
invariant-loop-left g l = record {
  inside : l.left ≤ length l.objects;
  none : total (λ o. o.section_id_range.len) (drop l.left l.objects) ≡ 0;
}

abbrev pub decreases-loop-left : goal.decreases-loop-left
decreases-loop-left g l = l.left
