use Rattle.std.proofs.Common.{◌∙◌, ap, arith, bit_or}
use Rattle.link_resolve_marks.proofs.Joined.{marked-beyond, marked-one}
use Rattle.link_resolve_marks.proofs.marks.mark.Goals as goal

pub returns-then-at-words : goal.returns-then-at-words
returns-then-at-words c =
    rw (← c.as_usize-at.ensures.value)
    (marked-one c.as_usize-at.result c.args.flags.0 c.args.words.now c.raw.result (record { 0 = 0 }) (omega arith)
    (c.raw.ensures ∙ c.union.ensures tt ∙ ap (λ x. bit_or x c.args.flags.0) c.get.ensures))

pub returns-else-at-words : goal.returns-else-at-words
returns-else-at-words c =
    rw (← c.as_usize-at.ensures.value) (marked-beyond c.as_usize-at.result c.args.flags.0 c.args.words.now (omega arith))
