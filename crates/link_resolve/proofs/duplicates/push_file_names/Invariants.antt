use Rattle.std.proofs.Common.{◌≡◌, ◌++◌, drop, map}
use Rattle.link_resolve.proofs.duplicates.push_file_names.Given as goal

-- the names so far, and those that are left
abbrev pub invariant-loop-object : goal.invariant-loop-object
invariant-loop-object g l =
    l.names.items ++ map (λ o. o.input) (map (λ o. o.parsed) (drop l.object-index l.objects)) ≡ l.initial.names.items ++ map (λ o. o.input) (map (λ o. o.parsed) l.objects)
