use Rattle.std.proofs.Common.{◌<◌, ℕ, length, sym, subst}
use Rattle.link_closure.specs.declared.workload.Mark.{Mark}
use Rattle.link_closure.specs.declared.workload.Workload.{Workload}
use Rattle.link_claim.specs.Views.{MayMark}
use Rattle.link_claim_pool.proofs.Items.{marks_at, may_mark}
use Rattle.link_claim_pool.proofs.reading.read_mark.Goals as goal

pub or_assign-requires-clause-symbol : goal.or_assign-requires-clause-symbol
or_assign-requires-clause-symbol g c =
    let w = g.P.Plan.work c.args.plan.now in
    let m : Mark = record { symbol = c.in-Some.mark.0; bits = c.in-Some.mark.1.0 } in
    let has = marks_at w c.args.seat.now.view c.args.item c.args.index c.requires.work c.requires.begun c.requires.item m c.in-Some.ensures in
    let lt = (g.met.P.Plan.sound c.args.plan.now).marks c.args.item m has in
    subst (λ (z : Workload). c.get_atomic.result.symbol < length z.opening) (sym c.requires.work) (subst (λ x. x < length w.opening) (sym c.get_atomic.ensures.symbol) lt)

pub or_assign-requires-clause-may : goal.or_assign-requires-clause-may
or_assign-requires-clause-may g c =
    let w = g.P.Plan.work c.args.plan.now in
    let bits = c.in-Some.mark.1.0 in
    subst (λ (x : ℕ). MayMark c.args.seat.now.view (record { symbol = x; bits = bits })) (sym c.get_atomic.ensures.symbol)
    (may_mark w c.args.seat.now.view c.args.item c.args.index c.requires.work c.requires.begun c.requires.item (record { symbol = c.in-Some.mark.0; bits = bits }) c.in-Some.ensures)
