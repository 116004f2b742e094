use Rattle.std.proofs.Common.{◌≡◌, ◌++◌, map}
use Rattle.link_db_files.specs.GroupFiles.{symbols_in}
use Rattle.link_input.specs.Symbols.{Symbol}
use Rattle.link_rules.specs.Rivals.{is_in_loaded_regular}
use Rattle.link_resolve_marks.proofs.columns.held_symbols.Given as goal

abbrev pub invariant-loop-symbol : goal.invariant-loop-symbol
invariant-loop-symbol g l =
    let says = λ (x : Symbol). is_in_loaded_regular l.loaded x.origin in
    l.column.items ++ map says l.symbol-iterator.left ≡ map says (symbols_in l.files.groups)
