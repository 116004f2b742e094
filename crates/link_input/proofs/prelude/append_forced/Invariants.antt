use Rattle.std.proofs.Common.{◌≡◌, ◌++◌, map, take}
use Rattle.link_input.specs.PreludeSymbols.{forced_symbol}
use Rattle.link_input.proofs.prelude.append_forced.Given as goal

abbrev pub invariant-loop-name : goal.invariant-loop-name
invariant-loop-name l = l.symbols.items ≡ l.initial.symbols.items ++ map forced_symbol (take l.name-index l.names)
