use Rattle.std.proofs.Common.{◌≡◌, ◌++◌, ℕ, drop, map}
use Rattle.link_resolve_files.specs.Places.{AreFrom}
use Rattle.link_resolve_files.specs.ResolvedFiles.{resolved_group}
use Rattle.link_resolve_files.specs.Resolving.{resolved_from}
use Rattle.link_resolve_files.proofs.resolving.resolved_groups.Given as goal

-- the groups so far, and those that are left, before which there are so many objects
abbrev pub invariant-loop-group : goal.invariant-loop-group
invariant-loop-group g l =
    (n : ℕ) × (AreFrom l.loaded n l.places
    × (map resolved_group l.resolved.items ++ resolved_from l.loaded l.kept n (drop l.group-index l.groups) ≡ resolved_from l.loaded l.kept 0 l.groups))
