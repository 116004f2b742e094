use Rattle.std.proofs.Common.{◌≡◌, ◌++◌, ◌+◌, ◌≤◌, ◌<◌, ℕ, All, length}
use Rattle.link_db_files.specs.GroupFiles.{symbols_in}
use Rattle.link_rules.specs.Places.{each_from}
use Rattle.link_rules.specs.Rivals.{reference_entry, reference_table}
use Rattle.link_rules.specs.Selection.{Selection}
use Rattle.link_db_symbols.specs.Lookups.{AreBelow, IsSelectionOf, MapsBelow}
use Rattle.link_db_symbols.proofs.table.reference_table.Given as goal

abbrev pub invariant-loop-id : goal.invariant-loop-id
invariant-loop-id g l =
    ((s : Selection) → IsSelectionOf (symbols_in l.files.groups) (g.M.FirstDefinitions.mapping l.names) l.targets s
    → l.table.items ++ each_from (reference_entry s) l.id-iterator.next l.id-iterator.left ≡ reference_table s)
    × ((l.id-iterator.next + length l.id-iterator.left ≡ length (symbols_in l.files.groups))
    × ((length l.table.items ≡ l.id-iterator.next)
    × ((n : ℕ) → length (symbols_in l.files.groups) ≤ n → MapsBelow n (g.M.FirstDefinitions.mapping l.names) → AreBelow n l.targets → All (λ entry. entry < n) l.table.items)))
