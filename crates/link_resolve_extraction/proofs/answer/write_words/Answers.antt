use Rattle.std.proofs.Common.{◌∙◌, arith}
use Rattle.link_flags.specs.FlagWords.{numbers_of}
use Rattle.link_resolve_extraction.specs.Answer.{closed_flags}
use Rattle.link_resolve_extraction.proofs.AnswerWritten.{before-one-more, before-none, before-all}
use Rattle.link_resolve_extraction.proofs.answer.write_words.Goals as goal

pub loop-index-init : goal.loop-index-init
loop-index-init c = before-none (closed_flags c.args.closed.now) (numbers_of c.args.words.now)

-- one word more
pub loop-index-preserved : goal.loop-index-preserved
loop-index-preserved c =
    before-one-more (closed_flags c.args.closed.now) c.loop-index.index c.args.words.now c.loop-index.words c.closed_word.result _
    c.loop-index.auto.words (omega (arith, c.loop-index.auto.words)) c.loop-index.invariant c.closed_word.ensures

pub returns : goal.returns
returns c =
    c.loop-index.invariant ∙ before-all (closed_flags c.args.closed.now) c.loop-index.index c.args.words.now c.loop-index-test.false
