use Rattle.std.proofs.Common.{◌≡◌, drop}
use Rattle.std.specs.Prelude.{fold}
use Rattle.link_flags.specs.Selector.{after, considered}
use Rattle.link_check_targets.specs.Tables.{unshared}
use Rattle.link_check_targets.proofs.hidden.pick_unshared.Given as goal

abbrev pub invariant-loop-id : goal.invariant-loop-id
invariant-loop-id l = fold after l.selector (unshared l.symbols (drop l.id-index l.ids)) ≡ considered (unshared l.symbols l.ids)
