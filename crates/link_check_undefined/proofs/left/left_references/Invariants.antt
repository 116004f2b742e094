use Rattle.std.proofs.Common.{◌≡◌, ◌++◌, drop}
use Rattle.link_check_undefined.specs.Columns.{left_from}
use Rattle.link_check_undefined.proofs.left.left_references.Given as goal

abbrev pub invariant-loop-id : goal.invariant-loop-id
invariant-loop-id l = l.left.items ++ left_from l.columns l.id (drop l.id l.symbols) ≡ left_from l.columns 0 l.symbols
