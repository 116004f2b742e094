use Rattle.std.proofs.Common.{◌≡◌, ◌+◌, drop, length}
use Rattle.link_db_files.specs.GroupFiles.{symbols_in}
use Rattle.link_input_groups.specs.Asked.{AllCanBeAsked}
use Rattle.link_db.proofs.counting.symbols_of_groups.Given as goal

abbrev pub invariant-loop-group : goal.invariant-loop-group
invariant-loop-group g l =
    AllCanBeAsked (drop l.group-index l.groups) × (l.count + length (symbols_in (drop l.group-index l.groups)) ≡ length (symbols_in l.groups))
