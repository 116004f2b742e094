use Rattle.link_resolve_explanation.specs.Gathered.{checked_head}
use Rattle.link_resolve_explanation.proofs.CheckedHeads.{heads-more}
use Rattle.link_resolve_explanation.proofs.gathering.checked_heads.Goals as goal

-- one symbol more
pub loop-number-preserved : goal.loop-number-preserved
loop-number-preserved c =
    heads-more (checked_head c.args.found.now) c.loop-number.number c.loop-number.heads.items c.push.new.self.items c.checked_head.result c.in_ok-push.ensures.items
    c.checked_head.ensures c.loop-number.invariant
