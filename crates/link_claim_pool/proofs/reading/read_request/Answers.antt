use Rattle.link_claim_pool.proofs.Items.{may_request, request_there}
use Rattle.link_claim_pool.proofs.reading.read_request.Goals as goal

pub request_counted-requires-clause-asked : goal.request_counted-requires-clause-asked
request_counted-requires-clause-asked g c =
    may_request (g.P.Plan.work c.args.plan.now) c.args.seat.now.view c.args.item c.args.index c.requires.work c.requires.begun c.requires.item c.in-Some.file c.in-Some.ensures

-- there is no index without a request
pub returns-in_default-clause-count : goal.returns-in_default-clause-count
returns-in_default-clause-count g c = absurd (request_there (g.P.Plan.work c.args.plan.now) c.args.item c.args.index c.requires.item c.requires.index c.in_default.ensures)

pub returns-in_default-clause-asked : goal.returns-in_default-clause-asked
returns-in_default-clause-asked g c = absurd (request_there (g.P.Plan.work c.args.plan.now) c.args.item c.args.index c.requires.item c.requires.index c.in_default.ensures)
