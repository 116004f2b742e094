use Rattle.std.proofs.Common.{arith}
use Rattle.link_claim_pool.proofs.Findings.{visit_fewer}
use Rattle.link_claim_pool.proofs.Sweeping.{goes_then}
use Rattle.link_claim_pool.proofs.sweep.visit_file.Goals as goal

pub returns-in_err-visit-clause-goes_on : goal.returns-in_err-visit-clause-goes_on
returns-in_err-visit-clause-goes_on g c = goes_then c.loop-item.invariant.goes_on c.visit.ensures.goes_on

pub loop-item-preserved : goal.loop-item-preserved
loop-item-preserved g c =
    let inv = c.loop-item.invariant in
    let before = inv.fewer in
    let now = visit_fewer c.in_ok-visit.field-0 c.loop-item.results c.loop-item.seat.view c.visit.new.results c.visit.new.seat.view c.loop-item.item c.in_ok-visit.ensures.visit in
    record {
      goes_on = goes_then inv.goes_on c.visit.ensures.goes_on;
      may = c.in_ok-visit.ensures.may;
      fewer = omega arith;
    }
