use Rattle.std.proofs.Common.{◌≡◌, drop}
use Rattle.std.specs.Prelude.{◌==◌, find, not}
use Rattle.link_rules.specs.Selection.{Selection}
use Rattle.link_check_rivals.specs.Told.{Tells}
use Rattle.link_check_rivals.specs.Lists.{strong_entries}
use Rattle.link_check_rivals.proofs.loaded.LoadedSymbols.strong_beside.Given as goal

abbrev pub invariant-loop-entry : goal.invariant-loop-entry
invariant-loop-entry l = (selection : Selection) → Tells l.self selection
    → find (λ s. not (s == l.first)) (strong_entries selection (drop l.entry-index l.entries)) ≡ find (λ s. not (s == l.first)) (strong_entries selection l.entries)
