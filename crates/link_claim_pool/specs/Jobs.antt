-- What a thread begins with and hands back.
use Rattle.std.specs.Prelude.{◌≡◌, ℕ, List, [], All, Contains, ◌⊎◌, Option}
use Rattle.atomic_table.specs.Seated.{TableId}
use Rattle.link_closure.specs.declared.workload.Workload.{Workload}
use Rattle.link_claim.specs.declared.view.View.{View}
use Rattle.link_claim.specs.Later.{IsLater}
use Rattle.link_claim_pool.specs.declared.worker.Job.{Job}
use Rattle.link_claim_pool.specs.declared.worker.Finding.{Finding}
use Rattle.link_claim_pool.specs.declared.worker.Back.{Back}
use Rattle.link_claim_pool.specs.Found.{IsFound, HasResult}

-- each was found so
abbrev pub AllFound : {T : Type 0} → (ℕ → T → Type 0) → View → List (Finding T) → Type 0
AllFound found v findings = All (λ f. IsFound found v f.item f.found) findings

-- the item has a finding
abbrev pub HasFinding : {T : Type 0} → List (Finding T) → ℕ → Type 0
HasFinding findings i = (f : _) × Contains findings f × (f.item ≡ i)

-- each item that the seat began has one
abbrev pub AreKept : {T : Type 0} → View → List (Finding T) → Type 0
AreKept v findings = (i : ℕ) → Contains v.begins i → HasFinding findings i

-- the item has a result or a finding
abbrev pub IsInHand : {T : Type 0} → List (Option T) → List (Finding T) → ℕ → Type 0
IsInHand results findings i = HasResult results i ⊎ HasFinding findings i

-- its seat is of these words and of this work, and began nothing
abbrev pub IsReady : Workload → TableId → Job → Type 0
IsReady w table job = (job.seat.table ≡ table) × (job.seat.view.work ≡ w) × (job.seat.view.begins ≡ [])

-- the one that comes back is of them too, all was found so, and nothing that it began is lost
abbrev pub IsBack : {T : Type 0} → Workload → (ℕ → T → Type 0) → TableId → Back T → Type 0
IsBack w found table back = (back.seat.table ≡ table) × (back.seat.view.work ≡ w) × AllFound found back.seat.view back.findings.items × AreKept back.seat.view back.findings.items

-- the one that came back is taken in: the view has all that its seat knows, and each item that it found has a result
abbrev pub IsTakenIn : {T : Type 0} → View → List (Option T) → Back T → Type 0
IsTakenIn v results back = IsLater back.seat.view v × ((i : ℕ) → HasFinding back.findings.items i → HasResult results i)
