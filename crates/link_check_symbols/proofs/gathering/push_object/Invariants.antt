use Rattle.std.proofs.Common.{◌≡◌, ◌++◌, map, take}
use Rattle.link_input.specs.Symbols.{object_symbol}
use Rattle.link_check_symbols.proofs.gathering.push_object.Given as goal

abbrev pub invariant-loop-index : goal.invariant-loop-index
invariant-loop-index g l = l.symbols.items ≡ l.initial.symbols.items ++ map (object_symbol l.place l.object) (take l.index l.object.object.symbols)
