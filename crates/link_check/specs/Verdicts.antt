-- When a verdict on a claim is right.
use Rattle.std.specs.Prelude.{◌≡◌, ◌≢◌, ℕ, ◌<◌, List, map, slice_get}
use Rattle.link_check_claims.specs.declared.claim.Claim.{Claim}
use Rattle.link_check_claims.specs.declared.claim.ClaimedGroup.{ClaimedGroup}
use Rattle.link_check_claims.specs.Claims.{AreLoaded, ClaimHolds, claimed_group, claimed_marks}
use Rattle.link_rules.specs.Answer.{kept_comdats}
use Rattle.link_rules.specs.Selection.{selection_of}
use Rattle.link_rules.specs.Undefined.{final_table}
use Rattle.link_rules.specs.World.{Stage, World, first_stage}
use Rattle.link_check.specs.declared.verdict.Verdict.{Verdict}
use Rattle.link_check.specs.declared.verdict.Verdict.TheVariants.{Holds, FailsLoaded, FailsKept, FailsTable}

-- the kept groups that are due, where the objects are those that are claimed
abbrev pub due_kept : Stage → Claim → List ClaimedGroup
due_kept w claim = map claimed_group (kept_comdats w (claimed_marks w claim.loaded))

-- the table that is due then
abbrev pub due_table : Stage → Claim → List ℕ
due_table w claim = final_table (selection_of w (claimed_marks w claim.loaded))

-- two tables differ at this place, and at none that is less; behind its end a table has no entry
abbrev pub IsFirstDifference : List ℕ → List ℕ → ℕ → Type 0
IsFirstDifference table due i = (slice_get table i ≢ slice_get due i) × ((j : ℕ) → j < i → slice_get table j ≡ slice_get due j)

-- the first part that fails is told
abbrev pub IsVerdict : World → Claim → Verdict → Type 0
IsVerdict world claim Holds = ClaimHolds world claim
IsVerdict world claim FailsLoaded = AreLoaded (first_stage world) claim.loaded → ⊥
IsVerdict world claim FailsKept = AreLoaded (first_stage world) claim.loaded × (claim.kept ≢ due_kept (first_stage world) claim)
IsVerdict world claim (FailsTable id) = AreLoaded (first_stage world) claim.loaded × (claim.kept ≡ due_kept (first_stage world) claim)
    × IsFirstDifference claim.table (due_table (first_stage world) claim) id
