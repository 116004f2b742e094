use Rattle.std.proofs.Common.{◌≡◌, drop}
use Rattle.link_rules.specs.Places.{first_of}
use Rattle.link_rules.specs.Selection.{Selection}
use Rattle.link_check_rivals.specs.Told.{Tells}
use Rattle.link_check_rivals.specs.Lists.{strong_entries}
use Rattle.link_check_rivals.proofs.loaded.LoadedSymbols.first_strong.Given as goal

abbrev pub invariant-loop-entry : goal.invariant-loop-entry
invariant-loop-entry l = (selection : Selection) → Tells l.self selection
    → first_of (strong_entries selection (drop l.entry-index l.entries)) ≡ first_of (strong_entries selection l.entries)
