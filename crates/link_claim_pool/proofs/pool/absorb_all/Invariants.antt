use Rattle.std.proofs.Common.{◌≡◌, All, Contains, IfOk, vec_len}
use Rattle.std.specs.Prelude.{◌⊎◌, IsOkAnd}
use Rattle.link_claim.specs.Later.{IsLater}
use Rattle.link_claim_pool.specs.Found.{AreFound, AreWritten}
use Rattle.link_claim_pool.specs.Jobs.{IsBack, IsTakenIn}
use Rattle.link_claim_pool.proofs.pool.absorb_all.Given as goal

abbrev pub invariant-loop-back : goal.invariant-loop-back
invariant-loop-back g l = record {
  table : l.seat.table ≡ l.initial.seat.table;
  later : IsLater l.initial.seat.view l.seat.view;
  found : AreFound (g.P.Readable.found_in l.plan) l.seat.view l.results;
  written : AreWritten l.initial.seat.view.begins l.seat.view l.results;
  taken : All (λ r. Contains l.backs.items r ⊎ IsOkAnd r (IsTakenIn l.seat.view l.results)) l.initial.backs.items;
  rest : All (λ r. IfOk r (IsBack (g.P.Plan.work l.plan) (g.P.Readable.found_in l.plan) l.words)) l.backs.items;
}

abbrev pub decreases-loop-back : goal.decreases-loop-back
decreases-loop-back g l = vec_len l.backs
