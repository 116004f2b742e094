use Rattle.std.proofs.Common.{◌≡◌, ◌++◌, map}
use Rattle.std.specs.Vec.Iter.{into_iter_items}
use Rattle.link_input.specs.InputFiles.{stub_symbol}
use Rattle.link_input_groups.proofs.sequencing.append_stub_symbols.Given as goal

abbrev pub invariant-loop-name : goal.invariant-loop-name
invariant-loop-name l = l.symbols.items ++ map (stub_symbol l.is_weak) (into_iter_items l.name-iterator) ≡ l.fn.symbols.items ++ map (stub_symbol l.is_weak) l.fn.names
