use Rattle.std.proofs.Common.{arith}
use Rattle.link_claim_pool.proofs.Sweeping.{goes_then}
use Rattle.link_claim_pool.proofs.sweep.visit_claimed.Goals as goal

pub returns-in_err-visit_file-clause-goes_on : goal.returns-in_err-visit_file-clause-goes_on
returns-in_err-visit_file-clause-goes_on g c = goes_then c.loop.invariant.goes_on c.visit_file.ensures.goes_on

pub loop-preserved : goal.loop-preserved
loop-preserved g c =
    let inv = c.loop.invariant in
    let before = inv.fewer in
    let now = c.in_ok-visit_file.ensures.fewer in
    record {
      goes_on = goes_then inv.goes_on c.visit_file.ensures.goes_on;
      may = c.in_ok-visit_file.ensures.may;
      fewer = omega arith;
    }
