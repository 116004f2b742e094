use Rattle.std.proofs.Common.{◌≡◌, ◌++◌, drop, length}
use Rattle.std.specs.List.{enumerate_from}
use Rattle.link_db_files.specs.Inputs.{objects_in}
use Rattle.link_resolve_discarded.proofs.placed.placed_objects.Given as goal

-- the objects so far, and those that are left
abbrev pub invariant-loop-group : goal.invariant-loop-group
invariant-loop-group g l =
    l.placed.items ++ enumerate_from (length l.placed.items) (objects_in (drop l.group-index l.groups)) ≡ enumerate_from 0 (objects_in l.groups)
