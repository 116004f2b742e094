-- The law, from what every legal step keeps.
use Rattle.std.proofs.Common.{arith, Bool, true, false, ◌≤◌, cond}
use Rattle.link_closure.specs.Closure.{is_marked}
use Rattle.link_claim.proofs.Kept.{kept_reached, least, all_marked}
use Rattle.link_claim.proofs.law.any_interleaving.Goals as goal

at_most_one : (b : Bool) → cond b 1 0 ≤ 1
at_most_one true = omega arith
at_most_one false = omega arith

pub returns-clause-claims : goal.returns-clause-claims
returns-clause-claims c w core sound reached f = let k = kept_reached w sound core reached in let e = k.claims f in let m = at_most_one (is_marked core.claimed f) in omega arith

pub returns-clause-begins : goal.returns-clause-begins
returns-clause-begins c w core sound reached i = let k = kept_reached w sound core reached in let e = k.begins i in let m = at_most_one (is_marked core.begun i) in omega arith

pub returns-clause-needed : goal.returns-clause-needed
returns-clause-needed c w core sound reached = λ other closed f held. (kept_reached w sound core reached).needed f held other closed

pub returns-clause-flags : goal.returns-clause-flags
returns-clause-flags c w core sound reached = (kept_reached w sound core reached).flags

pub returns-clause-least : goal.returns-clause-least
returns-clause-least c w core sound reached all = least w sound core (kept_reached w sound core reached) all

pub returns-clause-marked : goal.returns-clause-marked
returns-clause-marked c w core sound reached all = all_marked w sound core (kept_reached w sound core reached) all
