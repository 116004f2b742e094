use Rattle.link_gc_marking.proofs.Work.{roots-same}
use Rattle.link_gc_marking.proofs.plan.MarkingPlanPlan.is_root.Goals as goal

pub returns : goal.returns
returns c =
    let same = roots-same c.args.self.now.roots.now c.args.self.now.edges.items c.args.file in
    (same.1, same.0)
