-- What `check` writes: whether the claim of a manifest holds, or the first part of it that fails.
use Rattle.std.specs.Prelude.{◌≡◌, List, [], ◌∷◌, ◌++◌, Option, Some, None, Result, Ok, Err, codes, decimal}
use Rattle.link_check.specs.declared.verdict.Verdict.{Verdict}
use Rattle.link_check.specs.declared.verdict.Verdict.TheVariants.{Holds, FailsLoaded, FailsKept, FailsTable}
use Rattle.link_check.specs.Verdicts.{IsVerdict}
use Rattle.link_check_claims.specs.declared.claim.Claim.{Claim}
use Rattle.link_check_texts.specs.Causes.{opening_refusal}
use Rattle.link_input.specs.InputFiles.{Batch}
use Rattle.link_rules.specs.declared.refusal.LinkError.{LinkError}
use Rattle.link_rules.specs.Places.{Bytes}
use Rattle.link_rules.specs.Report.{refusal_text}
use Rattle.link_rules.specs.World.{World}
use Rattle.link_manifest.specs.declared.fault.ManifestFault.{ManifestFault}
use Rattle.link_manifest.specs.declared.fault.Problem.TheVariants.{Missing, NotWithClaim}
use Rattle.link_manifest.specs.declared.fault.Step.TheVariants.{Key}
use Rattle.link_manifest.specs.declared.manifest.Manifest.{Manifest as Described}
use Rattle.link_manifest.specs.Manifest.{manifest_of}
use Rattle.link_program.specs.declared.status.Status.{Status}
use Rattle.link_program.specs.declared.status.Status.TheVariants.{Linked, Refused, Fails}
use Rattle.link_program.specs.Described.{error_line, world_of_manifest}
use Rattle.link_program.specs.Verdef.{fault_ending}

-- how the command ends by a verdict, with its text
abbrev pub verdict_ending : Verdict → Status × Bytes
verdict_ending Holds = (Linked, codes "holds\n")
verdict_ending FailsLoaded = (Fails, codes "fails loaded\n")
verdict_ending FailsKept = (Fails, codes "fails kept\n")
verdict_ending (FailsTable id) = (Fails, codes "fails table " ++ decimal id ++ codes "\n")

-- it ends by the verdict on the claim, where no cause comes before that
abbrev pub IsJudged : World → Claim → Option LinkError → Status × Bytes → Type 0
IsJudged w claim None ending = (verdict : Verdict) × IsVerdict w claim verdict × (ending ≡ verdict_ending verdict)
IsJudged w claim (Some error) ending = ending ≡ (Refused, error_line (refusal_text error))

-- a claim speaks of one batch
abbrev pub IsOfBatches : World → Claim → List Batch → Status × Bytes → Type 0
IsOfBatches w claim [] ending = IsJudged w claim (opening_refusal w) ending
IsOfBatches w claim (b ∷ bs) ending = ending ≡ fault_ending (record { path = Key (codes "batches") ∷ []; problem = NotWithClaim })

-- a manifest has to claim something, though no other command asks for that
abbrev pub IsOfClaim : World → Option Claim → Status × Bytes → Type 0
IsOfClaim w None ending = ending ≡ fault_ending (record { path = Key (codes "claim") ∷ []; problem = Missing })
IsOfClaim w (Some claim) ending = IsOfBatches w claim w.later ending

-- by what is read of a manifest
abbrev pub IsOfManifest : Result Described ManifestFault → Status × Bytes → Type 0
IsOfManifest (Err fault) ending = ending ≡ fault_ending fault
IsOfManifest (Ok m) ending = IsOfClaim (world_of_manifest m) m.claim ending

-- These bytes end the command so, with this text.
abbrev pub IsCheckOf : Bytes → Status → Bytes → Type 0
IsCheckOf bytes status text = IsOfManifest (manifest_of bytes) (status, text)
