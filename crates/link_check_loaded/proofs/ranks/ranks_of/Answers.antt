use Rattle.std.proofs.Common.{◌-◌, ◌≤◌, arith, length}
use Rattle.std.specs.BTreeMap.{get}
use Rattle.std.specs.Ordering.{nat_cmp}
use Rattle.link_check_loaded.proofs.Rising.{ranks-grow}
use Rattle.link_check_loaded.proofs.ranks.ranks_of.Goals as goal

pub loop-left-preserved : goal.loop-left-preserved
loop-left-preserved c =
    let loaded = c.args.loaded.now in
    let shorter : c.loop-left.left - 1 ≤ length loaded = omega (arith, c.loop-left.invariant.within) in
    record {
      within = shorter;
      told = ranks-grow loaded c.loop-left.left _ (get nat_cmp c.loop-left.ranks) (get nat_cmp c.note_rank.new.ranks) (omega arith) c.loop-left.invariant.within c.loop-left.invariant.told
          c.in_ok-note_rank.ensures;
    }
