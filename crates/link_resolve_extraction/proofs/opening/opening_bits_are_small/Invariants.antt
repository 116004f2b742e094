use Rattle.std.proofs.Common.{◌<◌, ◌^◌, All}
use Rattle.link_flags.specs.FlagWords.{numbers_of, words_of}
use Rattle.link_resolve_extraction.specs.Planned.{opening_of}
use Rattle.link_resolve_extraction.proofs.opening.opening_bits_are_small.Given as goal

-- those so far are small
abbrev pub invariant-loop-symbol : goal.invariant-loop-symbol
invariant-loop-symbol l = All (λ bits. bits < 2 ^ 32) (opening_of l.symbol (numbers_of (words_of l.flags)))
