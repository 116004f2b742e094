use Rattle.std.proofs.Common.{◌≡◌, ◌∙◌, ◌+◌, ◌-◌, suc, length, arith, ap, sym}
use Rattle.link_db_buckets.proofs.Walks.{walk_step}
use Rattle.link_db_buckets.proofs.walk.WalkIterator.next.Goals as goal

pub returns-clause-steps : goal.returns-clause-steps
returns-clause-steps c =
    let w = c.self.inside in
    let some : w.link ≡ suc (w.link - 1) = omega (arith, c.if-self-eq0.false) in
    let more : length w.forks.now - w.depth ≡ suc (length w.forks.now - (w.depth + 1)) = omega (arith, c.if-self.false) in
    sym c.self.view_is ∙ walk_step w.forks.now w.number w.depth (length w.forks.now - w.depth) (length w.forks.now - (w.depth + 1)) w.link (w.link - 1) c.bit_at-right.result c.link_at-self-inside.result more some c.bit_at-right.ensures c.link_at-self-inside.ensures

pub returns-clause-goes : goal.returns-clause-goes
returns-clause-goes c = let shorter = ap length (returns-clause-steps c) in record { on = λ _. (tt, tt, omega (arith, shorter)); keeps = tt; rests = λ _. tt }
