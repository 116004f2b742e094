use Rattle.std.proofs.Common.{◌≡◌, ◌++◌, map}
use Rattle.link_db_files.specs.GroupFiles.{symbols_in}
use Rattle.link_rules.specs.Undefined.{Numbered}
use Rattle.link_resolve_undefined.specs.Remaining.{remaining_from}
use Rattle.link_resolve_undefined.proofs.references.ids_left.Given as goal

abbrev pub invariant-loop-id : goal.invariant-loop-id
invariant-loop-id g l =
    l.left.items ++ map (λ (u : Numbered). u.0) (remaining_from l.loaded l.held l.targets l.id-iterator.next l.id-iterator.left)
    ≡ map (λ (u : Numbered). u.0) (remaining_from l.loaded l.held l.targets 0 (symbols_in l.files.groups))
