use Rattle.std.proofs.Common.{ap, not, ◌∙◌}
use Rattle.link_closure.proofs.Layers.{layered-new, layered-old, read-none, read-some}
use Rattle.link_closure.proofs.breadth_first.reach_one.Goals as goal

pub returns-in_ok-push : goal.returns-in_ok-push
returns-in_ok-push c =
    let none = read-none c.args.levels.now c.args.number c.requires (c.is_none.ensures ∙ ap not c.if-is_none.true) in
    rw c.in_ok-push.ensures.items (layered-new c.args.number c.args.level c.args.levels.now c.args.layer.now.items none)

pub returns-else-is_none : goal.returns-else-is_none
returns-else-is_none c =
    let some = read-some c.args.levels.now c.args.number c.requires (c.is_none.ensures ∙ ap not c.if-is_none.false) in
    layered-old c.args.number c.args.level some.0 c.args.levels.now c.args.layer.now.items some.1
