use Rattle.std.proofs.Common.{◌∙◌, arith, length-set}
use Rattle.link_resolve_rivals.proofs.Pointing.{head-pointed, next-pointed}
use Rattle.link_resolve_rivals.proofs.settling.point_to.Goals as goal

pub loop-symbol-init : goal.loop-symbol-init
loop-symbol-init c = λ s. rw c.as_usize.ensures.value (head-pointed c.args.table.now c.args.later.now c.args.head c.args.target s c.requires.head)

pub loop-symbol-preserved : goal.loop-symbol-preserved
loop-symbol-preserved c = λ s.
    next-pointed c.loop-symbol.table c.args.later.now c.loop-symbol.symbol-index c.args.target s c.loop-symbol-test.true
    (omega (arith, c.requires.later c.loop-symbol.symbol-index 0 c.loop-symbol-test.true, length-set c.args.table.now c.as_usize.result c.args.target))
    ∙ c.loop-symbol.invariant s
