use Rattle.std.proofs.Common.{sym, ap, subst}
use Rattle.link_claim.specs.declared.view.View.{View}
use Rattle.link_claim.specs.Seats.{Place}
use Rattle.link_claim_pool.specs.Found.{AreFound}
use Rattle.link_claim_pool.proofs.pool.read_known.Goals as goal

pub absorb_all-requires-clause-found : goal.absorb_all-requires-clause-found
absorb_all-requires-clause-found g c κs within =
    subst (λ (v : View). AreFound (g.P.Readable.found_in c.args.plan.now) v c.args.results.now) (sym (ap (λ (p : Place). p.view) c.jobs_of.ensures.same)) c.requires.found
