-- What a sweep leaves, step by step.
use Rattle.std.proofs.Common.{◌∙◌, ℕ, List, Option}
use Rattle.atomic_table.specs.Seated.{TableId}
use Rattle.link_closure.specs.declared.workload.Workload.{Workload}
use Rattle.link_claim.proofs.Later.{later_then}
use Rattle.link_claim.specs.Seats.{Place}
use Rattle.link_claim_pool.specs.Sweeping.{GoesOn, MaySweep}
use Rattle.link_claim_pool.proofs.Findings.{are_found_later}

-- a seat that goes on and then goes on has gone on
pub goes_then : {a b c : Place} → GoesOn a b → GoesOn b c → GoesOn a c
goes_then first then = record { table = then.table ∙ first.table; later = later_then first.later then.later }

-- what may be swept may be swept by the seat as it goes on
pub may_later : {T : Type 0} (found : ℕ → T → Type 0) (w : Workload) (words : TableId) (a b : Place) (results : List (Option T))
    → GoesOn a b → MaySweep found w words a results → MaySweep found w words b results
may_later found w words a b results goes may = record {
  table = goes.table ∙ may.table;
  work = goes.later.same ∙ may.work;
  wide = may.wide;
  found = are_found_later found a.view b.view results goes.later may.found;
}
