use Rattle.std.proofs.Common.{◌∙◌}
use Rattle.link_gc.proofs.Behind.{marked-behind, unmarked-past}
use Rattle.link_gc.proofs.live.is_marked_behind.Goals as goal

-- there are marks from that place on
pub returns-in-Some : goal.returns-in-Some
returns-in-Some c = c.is_marked.ensures ∙ marked-behind c.args.marks.now c.in-Some.own.now c.args.start c.args.section c.in-Some.ensures.lookup.0.2

-- there are fewer marks
pub returns-in-None : goal.returns-in-None
returns-in-None c = unmarked-past c.args.marks.now c.args.start c.args.section c.in-None.ensures.lookup.0
