use Rattle.std.proofs.Common.{◌≡◌, ◌++◌, drop, map}
use Rattle.link_flags.specs.FlagWords.{numbers_of, words_of}
use Rattle.link_db.proofs.growing.push_flags.Given as goal

abbrev pub invariant-loop-value : goal.invariant-loop-value
invariant-loop-value l =
    numbers_of (words_of l.flags) ++ map (λ f. f.0) (drop l.value-index l.read) ≡ numbers_of (words_of l.fn.flags) ++ map (λ f. f.0) l.read
