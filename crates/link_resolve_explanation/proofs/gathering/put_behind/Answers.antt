use Rattle.link_resolve_explanation.proofs.HeadedLists.{row-kept, row-put}
use Rattle.link_resolve_explanation.proofs.gathering.put_behind.Goals as goal

pub returns-in_ok-push_to_row-in-Some : goal.returns-in_ok-push_to_row-in-Some
returns-in_ok-push_to_row-in-Some c =
    row-put c.args.heads.now c.args.number c.in-Some.head c.args.rows.now c.push_to_row.new.rows c.in-Some.ensures.value c.in_ok-push_to_row-in-Some.ensures

pub returns-in-None : goal.returns-in-None
returns-in-None c = row-kept c.args.heads.now c.args.number c.args.rows.now c.in-None.ensures.value
