use Rattle.link_closure.proofs.Rows.{least-over-edges, ok-along}
use Rattle.link_closure.proofs.least_closed.Goals as goal

pub returns : goal.returns
returns c = ok-along c.closed_over_rows.result _ _
    (λ marks least. least-over-edges _ c.in_ok-rows.rows.items c.args.edges.now _ marks.items c.in_ok-rows.ensures.leads (rw c.deref.ensures.value at least))
    c.closed_over_rows.ensures
