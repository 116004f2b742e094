use Rattle.std.proofs.Common.{◌≡◌, drop}
use Rattle.std.specs.Prelude.{fold}
use Rattle.link_flags.specs.Selector.{after, considered}
use Rattle.link_rules.specs.Rivals.{static_candidates}
use Rattle.link_rules.specs.Selection.{Selection}
use Rattle.link_check_rivals.specs.Told.{Tells}
use Rattle.link_check_rivals.proofs.loaded.LoadedSymbols.pick.Given as goal

abbrev pub invariant-loop-entry : goal.invariant-loop-entry
invariant-loop-entry l = (selection : Selection) → Tells l.self selection
    → fold after l.selector (static_candidates selection (drop l.entry-index l.entries)) ≡ considered (static_candidates selection l.entries)
