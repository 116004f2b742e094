use Rattle.std.proofs.Common.{arith}
use Rattle.link_core_answer.specs.Seen.{seen}
use Rattle.link_gc.specs.Numbering.{home_number}
use Rattle.link_gc.proofs.MarkedItems.{marked-by}
use Rattle.link_gc.proofs.Rooted.{root-below}
use Rattle.link_gc.proofs.roots.mark_home_of_root.Goals as goal

-- its home is marked
pub returns-then-as_usize-num_symbols : goal.returns-then-as_usize-num_symbols
returns-then-as_usize-num_symbols g c = λ l of placed within.
    marked-by c.args.marks.now c.mark.new.marks c.home_number.result (home_number l c.args.id) (c.home_number.ensures.home l of placed) c.mark.ensures.marked

-- there is no other root
pub returns-else-as_usize-num_symbols : goal.returns-else-as_usize-num_symbols
returns-else-as_usize-num_symbols g c = λ l of placed within n lt.
    let below = root-below l (seen c.args.linked.now) c.args.id of within in
    absurd (omega (arith, below, c.if-as_usize-num_symbols.false, c.as_usize.ensures.value, c.num_symbols.ensures.value))
