use Rattle.std.proofs.Common.{◌≡◌, ◌++◌, take}
use Rattle.std.specs.List.{flat_map}
use Rattle.link_check_symbols.specs.Gathered.{script_symbols}
use Rattle.link_check_symbols.proofs.gathering.push_scripts.Given as goal

abbrev pub invariant-loop-script : goal.invariant-loop-script
invariant-loop-script l = l.symbols.items ≡ l.initial.symbols.items ++ flat_map script_symbols (take l.script-index l.scripts)
