use Rattle.std.proofs.Common.{◌≡◌, None, drop}
use Rattle.link_check_loaded.specs.Accepted.{rises_from}
use Rattle.link_check_loaded.proofs.ranks.are_rising.Given as goal

abbrev pub invariant-loop-claimed : goal.invariant-loop-claimed
invariant-loop-claimed l = rises_from l.last (drop l.claimed-index l.loaded) ≡ rises_from None l.loaded
