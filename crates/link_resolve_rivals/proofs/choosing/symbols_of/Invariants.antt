use Rattle.std.proofs.Common.{◌≡◌, ◌∷◌, ◌++◌, drop}
use Rattle.link_resolve_rivals.proofs.choosing.symbols_of.Given as goal

abbrev pub invariant-loop-symbol : goal.invariant-loop-symbol
invariant-loop-symbol l = l.symbols.items ++ drop l.symbol-index l.later ≡ l.fn.head ∷ l.later
