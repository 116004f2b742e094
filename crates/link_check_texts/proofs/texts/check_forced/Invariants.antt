use Rattle.std.proofs.Common.{◌≡◌, drop}
use Rattle.link_check_texts.specs.Causes.{forced_causes}
use Rattle.link_check_texts.proofs.texts.check_forced.Given as goal

abbrev pub invariant-loop-i : goal.invariant-loop-i
invariant-loop-i l = forced_causes l.i (drop l.i l.forced) ≡ forced_causes 0 l.forced
