use Rattle.link_claim_pool.proofs.Items.{has_read}
use Rattle.link_claim_pool.proofs.reading.read_item.Goals as goal

pub returns-clause-read : goal.returns-clause-read
returns-clause-read g c =
    has_read (g.P.Plan.work c.args.plan.now) c.args.seat.now.view c.read_requests.new.seat.view c.read_marks.new.seat.view c.args.item
    c.requires.work c.read_requests.ensures.later c.read_marks.ensures.later c.requires.begun c.in_ok-requests.ensures.read c.read_marks.ensures.read
