use Rattle.link_claim.proofs.Settled.{same_claimed, same_flags}
use Rattle.link_claim.proofs.law.no_schedule_changes_the_end.Goals as goal

pub returns-clause-claimed : goal.returns-clause-claimed
returns-clause-claimed c a b same one other = same_claimed a b same one other

pub returns-clause-flags : goal.returns-clause-flags
returns-clause-flags c a b same one other x lt = same_flags a b same one other x lt
