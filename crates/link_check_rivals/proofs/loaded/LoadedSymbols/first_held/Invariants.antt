use Rattle.std.proofs.Common.{◌≡◌, drop}
use Rattle.std.specs.Prelude.{find}
use Rattle.link_rules.specs.Rivals.{is_held}
use Rattle.link_rules.specs.Selection.{Selection}
use Rattle.link_check_rivals.specs.Told.{Tells}
use Rattle.link_check_rivals.proofs.loaded.LoadedSymbols.first_held.Given as goal

abbrev pub invariant-loop-entry : goal.invariant-loop-entry
invariant-loop-entry l = (selection : Selection) → Tells l.self selection
    → find (is_held selection) (drop l.entry-index l.entries) ≡ find (is_held selection) l.entries
