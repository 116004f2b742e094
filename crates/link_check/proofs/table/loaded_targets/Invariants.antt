use Rattle.std.proofs.Common.{◌≡◌, take}
use Rattle.link_rules.specs.Places.{each_from}
use Rattle.link_check.specs.Columns.{loaded_target_at}
use Rattle.link_check.proofs.table.loaded_targets.Given as goal

abbrev pub invariant-loop-id : goal.invariant-loop-id
invariant-loop-id l = l.column.items ≡ each_from (loaded_target_at l.marks l.targets) 0 (take l.id l.symbols)
