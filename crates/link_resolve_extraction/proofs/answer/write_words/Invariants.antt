use Rattle.std.proofs.Common.{◌≡◌}
use Rattle.link_flags.specs.FlagWords.{numbers_of}
use Rattle.link_rules.specs.Places.{each_from}
use Rattle.link_resolve_extraction.specs.Answer.{closed_flags}
use Rattle.link_resolve_extraction.proofs.AnswerWritten.{before}
use Rattle.link_resolve_extraction.proofs.answer.write_words.Given as goal

-- the words before the index are written
abbrev pub invariant-loop-index : goal.invariant-loop-index
invariant-loop-index l = numbers_of l.words ≡ each_from (before (closed_flags l.closed) l.index) 0 (numbers_of l.fn.words)
