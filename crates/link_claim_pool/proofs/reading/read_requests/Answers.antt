use Rattle.std.proofs.Common.{◌≡◌, ◌∙◌, ◌+◌, ℕ, Contains, Some, ap, arith, below_more, length}
use Rattle.std.specs.Prelude.{slice_get}
use Rattle.link_closure.specs.declared.workload.Item.{Item}
use Rattle.link_closure.specs.Workload.{HasItem}
use Rattle.link_claim.proofs.Later.{later_then}
use Rattle.link_claim_pool.proofs.Items.{asked_all, asked_more, contains_get, get_at}
use Rattle.link_claim_pool.proofs.reading.read_requests.Goals as goal

pub returns-in_err-read_request-clause-later : goal.returns-in_err-read_request-clause-later
returns-in_err-read_request-clause-later g c = later_then c.loop-index.invariant.later c.read_request.ensures.later

pub loop-index-preserved : goal.loop-index-preserved
loop-index-preserved g c =
    let inv = c.loop-index.invariant in
    let step = c.in_ok-read_request.ensures in
    record {
      table = c.read_request.ensures.table ∙ inv.table;
      later = later_then inv.later c.read_request.ensures.later;
      begins = c.read_request.ensures.begins ∙ inv.begins;
      read = below_more
          (λ j. (it : Item) → HasItem (g.P.Plan.work c.args.plan.now) c.args.item it → (f : ℕ) → slice_get it.requests j ≡ Some f → Contains c.read_request.new.seat.view.known f)
          c.loop-index.index
          (λ j lt it has f is. c.read_request.ensures.later.known f (inv.read j lt it has f is))
          c.read_request.ensures.read;
      claimed = λ v old. step.claimed v (inv.claimed v old);
      asked = λ it has.
          let there = get_at it.requests c.loop-index.index (let end = c.request_count-index-end.ensures it has in let test = c.loop-index-test.true in omega arith) in
          asked_more it.requests c.loop-index.index there.0 c.args.seat.now.view c.loop-index.seat.view c.read_request.new.seat.view there.1 (inv.asked it has) (step.asked it has there.0 there.1);
      count = step.count ∙ ap (λ n. n + 1) inv.count;
    }

pub returns-clause-read : goal.returns-clause-read
returns-clause-read g c = λ it has f asked.
    let at = contains_get it.requests f asked in
    let lt = at.1 in
    let end = c.request_count-index-end.ensures it has in
    let test = c.loop-index-test.false in
    c.loop-index.invariant.read at.0 (omega arith) it has f at.2

pub returns-clause-asked : goal.returns-clause-asked
returns-clause-asked g c = λ it has.
    let end = c.request_count-index-end.ensures it has in
    let test = c.loop-index-test.false in
    let same : c.loop-index.index ≡ length it.requests = omega arith in
    asked_all it.requests c.loop-index.index c.args.seat.now.view c.loop-index.seat.view same (c.loop-index.invariant.asked it has)
