use Rattle.std.proofs.Common.{◌≡◌, drop}
use Rattle.std.specs.Prelude.{fold}
use Rattle.link_flags.specs.Selector.{after, considered}
use Rattle.link_db_lookup.specs.Unshared.{unshared}
use Rattle.link_db_lookup.proofs.picking.pick_unshared.Given as goal

abbrev pub invariant-loop-number : goal.invariant-loop-number
invariant-loop-number g l =
    fold after l.selector (unshared l.files (drop l.number-index l.symbols)) ≡ considered (unshared l.files l.symbols)
