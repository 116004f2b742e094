use Rattle.std.proofs.Common.{◌≡◌, ◌++◌, map, take}
use Rattle.link_input.specs.InputFiles.{object}
use Rattle.link_input.specs.Symbols.{symbols_of}
use Rattle.link_check_symbols.proofs.gathering.push_objects.Given as goal

abbrev pub invariant-loop-place : goal.invariant-loop-place
invariant-loop-place g l = l.symbols.items ≡ l.initial.symbols.items ++ symbols_of 0 (map object (take l.place l.objects))
