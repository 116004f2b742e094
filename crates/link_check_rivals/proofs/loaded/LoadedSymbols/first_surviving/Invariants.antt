use Rattle.std.proofs.Common.{◌≡◌, drop}
use Rattle.std.specs.Prelude.{find}
use Rattle.link_rules.specs.Rivals.{is_surviving}
use Rattle.link_rules.specs.Selection.{Selection}
use Rattle.link_check_rivals.specs.Told.{Tells}
use Rattle.link_check_rivals.proofs.loaded.LoadedSymbols.first_surviving.Given as goal

abbrev pub invariant-loop-entry : goal.invariant-loop-entry
invariant-loop-entry l = (selection : Selection) → Tells l.self selection
    → find (is_surviving selection) (drop l.entry-index l.entries) ≡ find (is_surviving selection) l.entries
