use Rattle.link_core_answer.specs.Seen.{seen}
use Rattle.link_gc.proofs.Ended.{of-world}
use Rattle.link_gc.proofs.collection.collect.Goals as goal

-- the live sections are those of the selection with which the batches end
pub returns : goal.returns
returns g c = λ w linked parts.
    let l = parts.0 in
    let ends = parts.1.ends in
    (l, ends, c.in_ok-live.ensures l (of-world w (seen c.args.linked.now) linked parts l ends))
