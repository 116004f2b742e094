-- A plain store in the place of a swap or of a `fetch_or`.
use Rattle.std.specs.Prelude.{ℕ, []}
use Rattle.atomic_table.specs.Table.{Allows}
use Rattle.link_closure.specs.declared.workload.Workload.{Workload}
use Rattle.link_claim.specs.declared.view.View.{View}
use Rattle.link_claim.specs.Views.{first_view}
use Rattle.link_claim.specs.Rule.{Holds}

-- the first seat, before it did anything, may store n in the word j, whatever other seats have done by then: the rule is
-- kept, and P holds of the view after the step
abbrev pub MayStore : Workload → ℕ → ℕ → (View → Type 0) → Type 0
MayStore w j n P = Allows (Holds w) 0 0 (first_view w, []) j (λ found. n) (λ found me'. P me'.0)
