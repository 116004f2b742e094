use Rattle.std.proofs.Common.{◌≡◌, ◌≤◌, ℕ, drop, length}
use Rattle.std.specs.BTreeMap.{get}
use Rattle.std.specs.Ordering.{nat_cmp}
use Rattle.link_check_loaded.specs.Accepted.{rank_in}
use Rattle.link_check_loaded.proofs.ranks.ranks_of.Given as goal

abbrev pub invariant-loop-left : goal.invariant-loop-left
invariant-loop-left l = record {
  within : l.left ≤ length l.loaded;
  told : (f : ℕ) → get nat_cmp l.ranks f ≡ rank_in (drop l.left l.loaded) f;
}

abbrev pub decreases-loop-left : goal.decreases-loop-left
decreases-loop-left l = l.left
