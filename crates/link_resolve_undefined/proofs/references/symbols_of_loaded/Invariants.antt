use Rattle.std.proofs.Common.{◌≡◌, ◌++◌}
use Rattle.link_db_files.specs.GroupFiles.{symbols_in}
use Rattle.link_resolve_undefined.specs.Remaining.{held_by}
use Rattle.link_resolve_undefined.proofs.references.symbols_of_loaded.Given as goal

abbrev pub invariant-loop-symbol : goal.invariant-loop-symbol
invariant-loop-symbol g l =
    l.held.items ++ held_by l.loaded l.symbol-iterator.left ≡ held_by l.loaded (symbols_in l.files.groups)
