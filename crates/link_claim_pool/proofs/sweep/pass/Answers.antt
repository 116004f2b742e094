use Rattle.std.proofs.Common.{◌≡◌, length, subst, arith}
use Rattle.link_claim_pool.specs.Found.{Sweeps}
use Rattle.link_claim_pool.proofs.Findings.{sweep_more}
use Rattle.link_claim_pool.proofs.Sweeping.{goes_then}
use Rattle.link_claim_pool.proofs.sweep.pass.Goals as goal

pub returns-in_err-read-clause-goes_on : goal.returns-in_err-read-clause-goes_on
returns-in_err-read-clause-goes_on g c = goes_then c.loop-item.invariant.goes_on c.visit.ensures.goes_on

pub loop-item-preserved : goal.loop-item-preserved
loop-item-preserved g c =
    let inv = c.loop-item.invariant in
    record {
      goes_on = goes_then inv.goes_on c.visit.ensures.goes_on;
      may = c.in_ok-read.ensures.may;
      swept = sweep_more c.loop-item.more c.in_ok-read.read c.args.results.now c.args.seat.now.view c.loop-item.results c.loop-item.seat.view
          c.visit.new.results c.visit.new.seat.view c.loop-item.item inv.swept c.in_ok-read.ensures.visit;
    }

pub returns-clause-sweep : goal.returns-clause-sweep
returns-clause-sweep g c =
    let count = c.items-item-end.ensures in
    let test = c.loop-item-test.false in
    let most = c.loop-item.auto.item-end in
    let e : c.loop-item.item ≡ length (g.P.Plan.work c.args.plan.now).items = omega arith in
    subst (λ n. Sweeps c.loop-item.more c.args.results.now c.args.seat.now.view c.loop-item.results c.loop-item.seat.view n) e c.loop-item.invariant.swept
