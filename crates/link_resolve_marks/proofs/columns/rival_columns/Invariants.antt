use Rattle.std.proofs.Common.{◌≡◌, ◌++◌, map}
use Rattle.link_db_files.specs.GroupFiles.{symbols_in}
use Rattle.link_input.specs.Symbols.{Symbol, is_shared, visibility_in}
use Rattle.link_resolve_marks.proofs.columns.rival_columns.Given as goal

-- each column so far, and what is left
abbrev pub invariant-loop-symbol : goal.invariant-loop-symbol
invariant-loop-symbol g l =
    let left = l.symbol-iterator.left in
    let all = symbols_in l.files.groups in
    (l.columns.dynamic.items ++ map (λ (x : Symbol). is_shared x.origin) left ≡ map (λ (x : Symbol). is_shared x.origin) all)
    × (l.columns.visibilities.items ++ map (λ (x : Symbol). visibility_in x.origin) left ≡ map (λ (x : Symbol). visibility_in x.origin) all)
