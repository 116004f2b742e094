-- How `check` ends, by what becomes of the claim.
use Rattle.std.proofs.Common.{◌≡◌, ◌≢◌, ◌⊎◌, ◌<◌, ◌∙◌, List, [], ◌∷◌, Option, Some, None, inl, inr, length, map, sym, ap, subst, arith}
use Rattle.link_check.specs.declared.verdict.Verdict.{Verdict}
use Rattle.link_check.specs.Verdicts.{IsVerdict}
use Rattle.link_check_claims.specs.declared.claim.Claim.{Claim}
use Rattle.link_check_texts.specs.Causes.{opening_refusal}
use Rattle.link_input.specs.InputFiles.{Batch}
use Rattle.link_manifest.specs.declared.fault.Problem.TheVariants.{NotWithClaim}
use Rattle.link_manifest.specs.declared.fault.Step.TheVariants.{Key}
use Rattle.link_rules.specs.declared.refusal.LinkError.{LinkError}
use Rattle.link_rules.specs.declared.refusal.LinkError.TheVariants as refusal
use Rattle.link_rules.specs.Places.{Bytes}
use Rattle.link_rules.specs.Report.{refusal_text}
use Rattle.link_rules.specs.World.{World}
use Rattle.std.specs.Prelude.{codes}
use Rattle.link_program.specs.declared.status.Status.{Status}
use Rattle.link_program.specs.declared.status.Status.TheVariants.{Refused}
use Rattle.link_program.specs.Check.{IsJudged, IsOfBatches, verdict_ending}
use Rattle.link_program.specs.Described.{error_line}
use Rattle.link_program.specs.Verdef.{fault_ending}

-- batches beside a claim are a fault
pub of-batches : {X : Type 0} (f : X → Batch) (w : World) (claim : Claim) (later : List X) (ending : Status × Bytes) → 0 < length later
    → ending ≡ fault_ending (record { path = Key (codes "batches") ∷ []; problem = NotWithClaim }) → IsOfBatches w claim (map f later) ending
of-batches f w claim [] ending some ends = absurd (omega (arith, some))
of-batches f w claim (b ∷ bs) ending some ends = ends

-- without any the claim is judged
pub of-one : {X : Type 0} (f : X → Batch) (w : World) (claim : Claim) (later : List X) (ending : Status × Bytes) → length later ≡ 0
    → IsJudged w claim (opening_refusal w) ending → IsOfBatches w claim (map f later) ending
of-one f w claim [] ending none judged = judged
of-one f w claim (b ∷ bs) ending none judged = absurd (omega (arith, none))

-- it ends by its verdict
pub judged-so : (w : World) (claim : Claim) (cause : Option LinkError) (verdict : Verdict) (ending : Status × Bytes) → cause ≡ None → IsVerdict w claim verdict
    → ending ≡ verdict_ending verdict → IsJudged w claim cause ending
judged-so w claim cause verdict ending none is ends = subst (λ (c : Option LinkError). IsJudged w claim c ending) (sym none) (verdict, is, ends)

-- or by a cause that comes before that
pub refused-so : (w : World) (claim : Claim) (cause : Option LinkError) (error : LinkError) (status : Status) (text : Bytes)
    → (error ≡ refusal.Memory) ⊎ (cause ≡ Some error) → error ≢ refusal.Memory → status ≡ Refused → text ≡ error_line (refusal_text error)
    → IsJudged w claim cause (status, text)
refused-so w claim cause error status text (inl memory) told ends line = absurd (told memory)
refused-so w claim cause error status text (inr is) told ends line =
    subst (λ (c : Option LinkError). IsJudged w claim c (status, text)) (sym is) (ap (λ (s : Status). (s, text)) ends ∙ ap (λ (t : Bytes). (Refused, t)) line)
