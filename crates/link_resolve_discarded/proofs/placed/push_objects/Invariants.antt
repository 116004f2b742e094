use Rattle.std.proofs.Common.{◌≡◌, ◌++◌, drop, length, map}
use Rattle.std.specs.List.{enumerate_from}
use Rattle.link_resolve_discarded.proofs.placed.push_objects.Given as goal

-- the objects so far, and those that are left
abbrev pub invariant-loop-object : goal.invariant-loop-object
invariant-loop-object g l =
    l.placed.items ++ enumerate_from (length l.placed.items) (map (λ o. o.parsed) (drop l.object-index l.objects))
    ≡ l.initial.placed.items ++ enumerate_from (length l.initial.placed.items) (map (λ o. o.parsed) l.objects)
