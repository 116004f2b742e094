use Rattle.std.proofs.Common.{◌≡◌, ◌++◌, drop}
use Rattle.link_flags.specs.FlagWords.{numbers_of, words_of}
use Rattle.link_db.specs.Adding.{flags_in}
use Rattle.link_db.proofs.growing.push_parts.Given as goal

abbrev pub invariant-loop-part : goal.invariant-loop-part
invariant-loop-part l =
    numbers_of (words_of l.flags) ++ flags_in (drop l.part-index l.parts) ≡ numbers_of (words_of l.fn.flags) ++ flags_in l.parts
