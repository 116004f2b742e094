use Rattle.link_core_answer.specs.Seen.{seen}
use Rattle.link_gc.proofs.Ended.{of-world}
use Rattle.link_gc.proofs.text.section_text.Goals as goal

-- the lines are those of the selection with which the batches end
pub returns : goal.returns
returns g c = λ w linked parts (l, ends, live). (l, c.args.live.now.marks.items, ends, live.live, c.in_ok-text.ensures l (of-world w (seen c.args.linked.now) linked parts l ends) live)
