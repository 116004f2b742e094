use Rattle.std.proofs.Common.{arith, length}
use Rattle.std.proofs.lemmas.Bool.{eqb-true}
use Rattle.link_check.proofs.Differing.{ended-alike}
use Rattle.link_check.proofs.comparing.are_same.Goals as goal

pub returns-clause-same : goal.returns-clause-same
returns-clause-same c = λ same.
    let claimed = c.args.claimed.now in
    let due = c.args.due.now in
    let many = eqb-true (length claimed) (length due) same in
    ended-alike claimed due c.loop-place.place c.loop-place-test.false (omega (arith, many)) c.loop-place.invariant
