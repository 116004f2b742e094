use Rattle.std.proofs.Common.{◌≡◌, ◌+◌, ◌++◌, ℕ, Bool, List, drop, map}
use Rattle.link_resolve_files.specs.Places.{AreFrom}
use Rattle.link_resolve_files.specs.ResolvedFiles.{resolved_file}
use Rattle.link_resolve_files.specs.Resolving.{resolved_objects}
use Rattle.link_resolve_files.proofs.resolving.resolved_objects.Given as goal

-- the objects so far, and those that are left
abbrev pub invariant-loop-object : goal.invariant-loop-object
invariant-loop-object g l = (marks : List Bool) → (n : ℕ) → AreFrom marks n l.fn.places →
    AreFrom marks (n + l.object-index) l.places
    × (map resolved_file l.files.items ++ resolved_objects marks l.kept (n + l.object-index) (drop l.object-index l.objects) ≡ resolved_objects marks l.kept n l.objects)
