use Rattle.std.proofs.Common.{◌∙◌}
use Rattle.link_resolve_extraction.proofs.AnswerWritten.{item-next}
use Rattle.link_resolve_extraction.proofs.answer.write_all.Goals as goal

-- one item more
pub loop-item-preserved : goal.loop-item-preserved
loop-item-preserved c =
    item-next c.loop-item.targets c.write_found.new.targets c.args.found.now c.loop-item.item-index c.item-item.result c.loop-item-test.true c.item-item.is c.write_found.ensures
    ∙ c.loop-item.invariant
