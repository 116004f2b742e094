use Rattle.std.proofs.Common.{sym}
use Rattle.std.proofs.lemmas.List.FromFn.{length-map-range_with_len}
use Rattle.std.proofs.Common.{length}
use Rattle.link_gc_marking.specs.Marking.{item_of}
use Rattle.link_gc_marking.proofs.plan.MarkingPlanPlan.items.Goals as goal

pub returns : goal.returns
returns c = sym (length-map-range_with_len (item_of c.args.self.now.edges.items) 0 (length c.args.self.now.roots.now))
