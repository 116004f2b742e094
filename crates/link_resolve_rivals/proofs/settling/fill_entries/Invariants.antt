use Rattle.std.proofs.Common.{◌≡◌, ◌<◌, ◌∷◌, ◌++◌, All, drop, length, map}
use Rattle.link_rules.specs.Rivals.{stand_in}
use Rattle.link_rules.specs.Selection.{Selection}
use Rattle.link_resolve_rivals.specs.Survivors.{Tells}
use Rattle.link_resolve_rivals.proofs.settling.fill_entries.Given as goal

abbrev pub invariant-loop-symbol : goal.invariant-loop-symbol
invariant-loop-symbol l = record {
  entries : (selection : Selection) → Tells l.survivors selection
      → l.entries.items ++ map (stand_in selection l.table) (drop l.symbol-index l.later) ≡ map (stand_in selection l.table) (l.fn.head ∷ l.later);
  inside : All (λ t. t < length l.table) l.entries.items;
}
