use Rattle.std.proofs.Common.{◌≡◌, ◌++◌, map, take}
use Rattle.link_check_symbols.specs.Gathered.{listed_symbol}
use Rattle.link_check_symbols.proofs.gathering.push_names.Given as goal

abbrev pub invariant-loop-name : goal.invariant-loop-name
invariant-loop-name l = l.symbols.items ≡ l.initial.symbols.items ++ map (listed_symbol l.is_weak) (take l.name-index l.names)
