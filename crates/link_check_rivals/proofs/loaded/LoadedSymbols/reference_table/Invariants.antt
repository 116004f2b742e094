use Rattle.std.proofs.Common.{◌≡◌, take}
use Rattle.link_rules.specs.Places.{each_from}
use Rattle.link_rules.specs.Rivals.{reference_entry}
use Rattle.link_rules.specs.Selection.{Selection}
use Rattle.link_check_rivals.specs.Told.{Tells}
use Rattle.link_check_rivals.proofs.loaded.LoadedSymbols.reference_table.Given as goal

abbrev pub invariant-loop-place : goal.invariant-loop-place
invariant-loop-place l = (selection : Selection) → Tells l.self selection → selection.targets ≡ l.targets
    → l.table.items ≡ each_from (reference_entry selection) 0 (take l.place l.symbols)
