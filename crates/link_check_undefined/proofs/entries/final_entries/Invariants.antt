use Rattle.std.proofs.Common.{◌≡◌, ◌++◌, drop}
use Rattle.link_rules.specs.Places.{each_from}
use Rattle.link_check_undefined.specs.Made.{entry_in}
use Rattle.link_check_undefined.proofs.entries.final_entries.Given as goal

abbrev pub invariant-loop-id : goal.invariant-loop-id
invariant-loop-id l =
    l.entries.items ++ each_from (entry_in l.columns l.last l.made l.table) l.id (drop l.id l.symbols) ≡ each_from (entry_in l.columns l.last l.made l.table) 0 l.symbols
