use Rattle.std.proofs.Common.{◌≡◌, ◌++◌, map, take, drop}
use Rattle.link_rules.specs.Visibility.{closed_if_local}
use Rattle.link_flags.specs.FlagWords.{numbers_of}
use Rattle.link_db.proofs.rust_form.close_words.Given as goal

abbrev pub invariant-loop-word : goal.invariant-loop-word
invariant-loop-word l =
    numbers_of (take l.word-index l.words) ++ map closed_if_local (numbers_of (drop l.word-index l.words)) ≡ map closed_if_local (numbers_of l.fn.words)
