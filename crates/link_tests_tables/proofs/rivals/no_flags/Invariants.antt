use Rattle.std.proofs.Common.{◌≡◌, length}
use Rattle.link_flags.specs.FlagWords.{words_of}
use Rattle.link_tests_tables.proofs.rivals.no_flags.Given as goal

abbrev pub invariant-loop : goal.invariant-loop
invariant-loop l = length (words_of l.flags) ≡ l.counter
