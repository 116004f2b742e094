use Rattle.std.proofs.Common.{◌≡◌, ◌++◌, take}
use Rattle.std.specs.List.{flat_map}
use Rattle.link_check_symbols.specs.Gathered.{library_symbols}
use Rattle.link_check_symbols.proofs.gathering.push_libraries.Given as goal

abbrev pub invariant-loop-library : goal.invariant-loop-library
invariant-loop-library l = l.symbols.items ≡ l.initial.symbols.items ++ flat_map library_symbols (take l.library-index l.libraries)
