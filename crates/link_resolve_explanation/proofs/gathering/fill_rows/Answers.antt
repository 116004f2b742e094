use Rattle.link_resolve_explanation.proofs.HeadedLists.{empty-rows}
use Rattle.link_resolve_explanation.proofs.gathering.fill_rows.Goals as goal

pub loop-number-init : goal.loop-number-init
loop-number-init c = empty-rows c.args.heads.now c.args.rows.now c.requires.empty
