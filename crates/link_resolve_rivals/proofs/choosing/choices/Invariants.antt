use Rattle.std.proofs.Common.{◌≡◌, ◌-◌, ◌++◌, filter_map, length}
use Rattle.std.specs.List.{range_with_len}
use Rattle.link_rules.specs.Selection.{Selection}
use Rattle.link_resolve_rivals.specs.Chosen.{choices, list_choice}
use Rattle.link_resolve_rivals.specs.Survivors.{Tells}
use Rattle.link_resolve_rivals.proofs.choosing.choices.Given as goal

-- the choices so far, and those of the lists that are left
abbrev pub invariant-loop-number : goal.invariant-loop-number
invariant-loop-number g l =
    (selection : Selection) → Tells l.survivors selection
    → l.told.items ++ filter_map (λ s. list_choice selection l.is_versioned (g.L.RivalLists.listed l.lists s) l.table s) (range_with_len l.number (length l.table - l.number))
    ≡ choices selection (g.L.RivalLists.listed l.lists) l.table l.is_versioned
