use Rattle.std.proofs.Common.{◌≡◌, ◌++◌}
use Rattle.std.specs.List.{flat_map}
use Rattle.std.specs.Vec.Iter.{into_iter_items}
use Rattle.link_resolve_roots.proofs.found.append_lists.Given as goal

-- what was added, and the lists that are left
abbrev pub invariant-loop-list : goal.invariant-loop-list
invariant-loop-list l =
    l.roots.items ++ flat_map (λ list. list) (into_iter_items l.list-iterator) ≡ l.fn.roots.items ++ flat_map (λ list. list) l.fn.lists.items
