use Rattle.std.proofs.Common.{◌≡◌, take}
use Rattle.link_rules.specs.Places.{each_from}
use Rattle.link_rules.specs.Selection.{Selection}
use Rattle.link_check_rivals.specs.Told.{Tells}
use Rattle.link_check_rivals.specs.Lists.{head_choice}
use Rattle.link_check_rivals.proofs.loaded.LoadedSymbols.choices.Given as goal

abbrev pub invariant-loop-place : goal.invariant-loop-place
invariant-loop-place l = (selection : Selection) → Tells l.self selection
    → l.choices.items ≡ each_from (head_choice l.naming selection l.table) 0 (take l.place l.symbols)
