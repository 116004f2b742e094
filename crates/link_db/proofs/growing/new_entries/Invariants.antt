use Rattle.std.proofs.Common.{◌≡◌, ◌++◌, ◌-◌, ◌≤◌}
use Rattle.std.specs.List.{range_with_len}
use Rattle.link_db.proofs.growing.new_entries.Given as goal

abbrev pub invariant-loop-number : goal.invariant-loop-number
invariant-loop-number l =
    (l.number ≤ l.end) × (l.entries.items ++ range_with_len l.number (l.end - l.number) ≡ range_with_len l.first (l.end - l.first))
