use Rattle.std.proofs.Common.{◌∙◌, ap, length}
use Rattle.link_gc_marking.proofs.Work.{outgoing-count, requests-are}
use Rattle.link_gc_marking.proofs.plan.MarkingPlanReadable.request_count.Goals as goal

pub returns : goal.returns
returns c it has =
    outgoing-count c.args.self.now.edges.items c.args._item c.args.read.now c.requires
    ∙ ap length (requests-are c.args.self.now.roots.now c.args.self.now.edges.items c.args._item it c.args.read.now has c.requires)
