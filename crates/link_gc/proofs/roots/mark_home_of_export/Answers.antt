use Rattle.std.proofs.Common.{false, true}
use Rattle.link_core_answer.specs.Seen.{seen}
use Rattle.link_gc.proofs.Exported.{export-more, export-past, exported-by}
use Rattle.link_gc.proofs.roots.mark_home_of_export.Goals as goal

-- it is exported, and its home is marked
pub returns-then-may_be_bound : goal.returns-then-may_be_bound
returns-then-may_be_bound g c = λ l of placed.
    let id = c.args.id in
    let symbol = c.args.symbol.now in
    let exported = exported-by l (seen c.args.linked.now) id symbol c.may_be_bound.result true of c.requires.shared c.may_be_bound.ensures c.if-may_be_bound.true in
    export-more l id symbol c.args.marks.now c.mark.new.marks c.home_number.result exported (c.home_number.ensures.home l of placed) c.mark.ensures.marked

-- it isn't
pub returns-else-may_be_bound : goal.returns-else-may_be_bound
returns-else-may_be_bound g c = λ l of placed.
    let id = c.args.id in
    let symbol = c.args.symbol.now in
    export-past l id symbol c.args.marks.now (exported-by l (seen c.args.linked.now) id symbol c.may_be_bound.result false of c.requires.shared c.may_be_bound.ensures c.if-may_be_bound.false)
