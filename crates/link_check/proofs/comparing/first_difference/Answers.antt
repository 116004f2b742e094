use Rattle.link_check.proofs.Differing.{ended-alike}
use Rattle.link_check.proofs.comparing.first_difference.Goals as goal

-- behind the end of both no entry stands
pub returns-clause-none : goal.returns-clause-none
returns-clause-none c = ended-alike c.args.claimed.now c.args.due.now c.loop-place.place c.loop-place-test.false c.if-claimed-due.false c.loop-place.invariant
