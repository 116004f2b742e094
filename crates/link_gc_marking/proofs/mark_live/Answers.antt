use Rattle.std.proofs.Common.{◌≡◌, ◌∙◌, Bool, Global, List, Vec, ap, length, subst, sym}
use Rattle.link_closure.specs.Closure.{IsLeastClosed}
use Rattle.link_closure.specs.Graph.{IsEdge, IsMarked}
use Rattle.link_closure.specs.declared.workload.Workload.{Workload}
use Rattle.link_closure.proofs.Rows.{ok-along}
use Rattle.link_claim.specs.Seats.{IsSettled, claimed_in}
use Rattle.link_gc_marking.proofs.Work.{live-are}
use Rattle.link_gc_marking.proofs.mark_live.Goals as goal

-- there is a mark for each number
pub claimed_marks-requires : goal.claimed_marks-requires
claimed_marks-requires g c = ap (λ (rs : List Bool). length rs) (sym c.in_ok-plan.ensures.roots) ∙ ap (λ (w : Workload). w.files) (sym c.in_ok-all.ensures.work)

-- the claimed files are the least closed set of the plan's work
pub returns : goal.returns
returns g c =
    let roots = c.args.roots.now in
    let plan = c.in_ok-plan.plan in
    let closed = c.in_ok-all.all.closed in
    let settled = c.in_ok-all.ensures.settled in
    let live = live-are roots plan.roots.now c.args.edges.items plan.edges.items closed.view.work (claimed_in closed) c.in_ok-plan.ensures.roots c.in_ok-plan.ensures.edges
    c.requires.in_range c.in_ok-all.ensures.work settled.least in
    ok-along c.claimed_marks.result (λ (marks : Vec Bool Global). IsSettled closed → marks.items ≡ claimed_in closed)
    (λ (marks : Vec Bool Global). IsLeastClosed (IsMarked roots) (IsEdge c.args.edges.items) (length roots) marks.items)
    (λ marks are. subst (λ (ms : List Bool). IsLeastClosed (IsMarked roots) (IsEdge c.args.edges.items) (length roots) ms) (sym (are settled)) live)
    c.claimed_marks.ensures
