use Rattle.std.proofs.Common.{◌≡◌, ◌++◌, take}
use Rattle.link_input.proofs.prelude.append_copies.Given as goal

abbrev pub invariant-loop-definition : goal.invariant-loop-definition
invariant-loop-definition l = l.symbols.items ≡ l.initial.symbols.items ++ take l.definition-index l.more
