use Rattle.std.proofs.Common.{◌≡◌, drop}
use Rattle.std.specs.BTreeMap.{get}
use Rattle.std.specs.Ordering.{nat_cmp}
use Rattle.link_check_loaded.specs.Accepted.{all_from, keeps_root}
use Rattle.link_check_loaded.proofs.closing.keeps_roots.Given as goal

abbrev pub invariant-loop-object : goal.invariant-loop-object
invariant-loop-object l = all_from (keeps_root (get nat_cmp l.ranks)) l.object (drop l.object l.roots) ≡ all_from (keeps_root (get nat_cmp l.ranks)) 0 l.roots
