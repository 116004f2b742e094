use Rattle.std.proofs.Common.{◌≡◌, ◌++◌, take}
use Rattle.link_input.specs.InputFiles.{prelude}
use Rattle.link_input.specs.Symbols.{file_symbols}
use Rattle.link_check_symbols.proofs.gathering.push_prelude.Given as goal

abbrev pub invariant-loop-definition : goal.invariant-loop-definition
invariant-loop-definition l = l.symbols.items ≡ l.initial.symbols.items ++ file_symbols 0 (prelude (take l.definition-index l.definitions))
