use Rattle.std.proofs.Common.{ap}
use Rattle.std.specs.Prelude.{slice_get}
use Rattle.link_closure.specs.declared.workload.Item.{Item}
use Rattle.link_gc_marking.proofs.Work.{item-is}
use Rattle.link_gc_marking.proofs.plan.MarkingPlanReadable.mark_at.Goals as goal

pub returns : goal.returns
returns c it has = ap (λ (t : Item). slice_get t.marks c.args._index) (item-is c.args.self.now.roots.now c.args.self.now.edges.items c.args._item it has).1
