use Rattle.std.proofs.Common.{◌≡◌, ◌++◌, [], map, take}
use Rattle.link_rules.specs.Selection.{Selection}
use Rattle.link_check_rivals.specs.Told.{Tells}
use Rattle.link_check_rivals.specs.Lists.{entry_in}
use Rattle.link_check_rivals.proofs.loaded.LoadedSymbols.entries.Given as goal

abbrev pub invariant-loop-id : goal.invariant-loop-id
invariant-loop-id l = (selection : Selection) → Tells l.self selection
    → l.entries.items ≡ [] ++ map (entry_in l.naming selection l.table) (take l.id-index l.own)
