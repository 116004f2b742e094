use Rattle.std.proofs.Common.{◌∙◌}
use Rattle.link_flags.specs.FlagWords.{numbers_of}
use Rattle.link_resolve_rivals.proofs.Joining.{head-joined, next-joined}
use Rattle.link_resolve_rivals.proofs.narrowing.join_flags.Goals as goal

pub loop-symbol-init : goal.loop-symbol-init
loop-symbol-init c = λ s.
    rw (← c.as_usize.ensures.value)
    (head-joined c.args.dynamic.now c.args.bits.0 (numbers_of c.args.words.now) (numbers_of c.join_word.new.words) c.args.later.now c.as_usize.result s (c.join_word.ensures s))

pub loop-symbol-preserved : goal.loop-symbol-preserved
loop-symbol-preserved c = λ s.
    next-joined c.args.dynamic.now c.args.bits.0 (numbers_of c.loop-symbol.words) (numbers_of c.join_word-in-loop-symbol.new.words) c.args.later.now
    c.loop-symbol.symbol-index s c.loop-symbol-test.true (c.join_word-in-loop-symbol.ensures s)
    ∙ c.loop-symbol.invariant s
