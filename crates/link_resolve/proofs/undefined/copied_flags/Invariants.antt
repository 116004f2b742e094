use Rattle.std.proofs.Common.{◌≡◌, ◌++◌, drop}
use Rattle.link_flags.specs.FlagWords.{words_of}
use Rattle.link_resolve.proofs.undefined.copied_flags.Given as goal

-- the words so far, and those that are left
abbrev pub invariant-loop-word : goal.invariant-loop-word
invariant-loop-word l =
    words_of l.copy ++ drop l.word-index l.words ≡ l.words
