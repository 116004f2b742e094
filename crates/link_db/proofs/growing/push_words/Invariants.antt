use Rattle.std.proofs.Common.{◌≡◌, ◌++◌, drop}
use Rattle.link_flags.specs.FlagWords.{numbers_of, words_of}
use Rattle.link_db.proofs.growing.push_words.Given as goal

abbrev pub invariant-loop-word : goal.invariant-loop-word
invariant-loop-word l =
    numbers_of (words_of l.flags) ++ numbers_of (drop l.word-index l.words) ≡ numbers_of (words_of l.fn.flags) ++ numbers_of l.words
