use Rattle.std.proofs.Common.{subst}
use Rattle.link_claim.specs.Later.{HasRead}
use Rattle.link_claim_pool.proofs.Findings.{found_now}
use Rattle.link_claim_pool.proofs.worker.follow.Goals as goal

pub returns-clause-found : goal.returns-clause-found
returns-clause-found g c =
    let found = g.P.Readable.found_in c.args.plan.now in
    let begun = c.if-not-begin_hinted.ensures.begun in
    let u = c.read_through-read.new.seat.view in
    let x = c.in_ok-claimed.field-0.found in
    let same = c.enter-passage.ensures in
    found_now found c.begin_hinted.new.seat.view u c.args.item x begun.2 c.read_through-read.ensures.later
    (subst (HasRead u) same c.in_ok-claimed.ensures.read) (subst (λ i. found i x) same c.in_ok-claimed.ensures.found)
