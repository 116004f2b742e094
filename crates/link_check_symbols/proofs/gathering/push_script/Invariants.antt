use Rattle.std.proofs.Common.{◌≡◌, ◌++◌, take}
use Rattle.link_check_symbols.specs.Gathered.{script_symbols}
use Rattle.link_check_symbols.proofs.gathering.push_script.Given as goal

abbrev pub invariant-loop-definition : goal.invariant-loop-definition
invariant-loop-definition l = l.symbols.items ≡ l.initial.symbols.items ++ script_symbols (record l.script { symbol_defs = take l.definition-index l.script.symbol_defs })
