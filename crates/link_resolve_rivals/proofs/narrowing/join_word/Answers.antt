use Rattle.std.proofs.Common.{◌∙◌, ap, arith, bit_or, false, true}
use Rattle.std.proofs.lemmas.List.{get_or_default}
use Rattle.link_flags.specs.FlagWords.{numbers_of}
use Rattle.link_resolve_rivals.proofs.Joining.{joined-none, joined-word}
use Rattle.link_resolve_rivals.proofs.narrowing.join_word.Goals as goal

pub returns-then-not-dynamic-at : goal.returns-then-not-dynamic-at
returns-then-not-dynamic-at c = λ s.
    joined-word c.args.dynamic.now c.args.bits.0 c.args.at c.args.words.now c.raw.result (record { 0 = 0 }) s (omega arith)
    (get_or_default c.args.dynamic.now c.args.at true false c.requires.at ∙ c.if-not-dynamic-at.true)
    (c.raw.ensures ∙ c.union.ensures tt ∙ ap (λ x. bit_or x c.args.bits.0) c.get.ensures)

pub returns-else-not-dynamic-at : goal.returns-else-not-dynamic-at
returns-else-not-dynamic-at c = λ s.
    joined-none c.args.dynamic.now c.args.bits.0 c.args.at (numbers_of c.args.words.now) s
    (get_or_default c.args.dynamic.now c.args.at true false c.requires.at ∙ c.if-not-dynamic-at.false)
