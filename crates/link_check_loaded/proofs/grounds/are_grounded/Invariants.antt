use Rattle.std.proofs.Common.{◌≡◌, true, take}
use Rattle.std.specs.BTreeMap.{get}
use Rattle.std.specs.List.{list_all}
use Rattle.std.specs.Ordering.{nat_cmp}
use Rattle.link_check_loaded.specs.Accepted.{is_grounded}
use Rattle.link_check_loaded.proofs.grounds.are_grounded.Given as goal

abbrev pub invariant-loop-claimed : goal.invariant-loop-claimed
invariant-loop-claimed l = list_all (is_grounded (get nat_cmp l.ranks) l.symbols l.requests l.roots) (take l.claimed-index l.loaded) ≡ true
