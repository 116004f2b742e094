use Rattle.std.proofs.Common.{◌≡◌, ◌++◌, drop, map}
use Rattle.link_db_files.specs.Inputs.{objects_in}
use Rattle.link_resolve.proofs.duplicates.file_names.Given as goal

-- the names so far, and those that are left
abbrev pub invariant-loop-group : goal.invariant-loop-group
invariant-loop-group g l =
    l.names.items ++ map (λ o. o.input) (objects_in (drop l.group-index l.groups)) ≡ map (λ o. o.input) (objects_in l.groups)
