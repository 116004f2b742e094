-- A fault of a text is the cause of a refusal.
use Rattle.std.proofs.Common.{◌≡◌, ◌-◌, ℕ, length, Option, Some, Result, ◌⊎◌, inl, inr, refl, ap, ◌∙◌, arith}
use Rattle.link_script_syntax.specs.declared.fault.Fault.{Fault}
use Rattle.link_script_syntax.specs.declared.fault.ScriptFault.{ScriptFault}
use Rattle.link_script_syntax.specs.declared.fault.ScriptFault.TheVariants as faults
use Rattle.link_script_syntax.specs.Fault.{Refuses}
use Rattle.link_rules.specs.declared.refusal.LinkError.{LinkError}
use Rattle.link_rules.specs.declared.refusal.LinkError.TheVariants.{Script, Memory}
use Rattle.link_rules.specs.declared.refusal.ScriptOrigin.{ScriptOrigin}
use Rattle.link_rules.specs.Places.{Bytes}
use Rattle.link_rules.specs.Refusals.{script_cause}
use Rattle.link_rules.specs.Rules.{fault_in}
use Rattle.link_check_texts.specs.Causes.{error_of}

-- it is this error, unless memory ran out
abbrev pub IsTold : Option LinkError → LinkError → Type 0
IsTold cause error = (error ≡ Memory) ⊎ (cause ≡ Some error)

-- a text that is refused has this cause
pub told : {A : Type 0} (origin : ScriptOrigin) (text : Bytes) (read : Result A Fault) (fault : ScriptFault) → Refuses fault text read
    → IsTold (script_cause origin (fault_in text read)) (error_of origin fault)
told origin text read faults.Memory p = inl refl
told {A} origin text read (faults.Text t) p =
    let at : length text - p.0 ≡ t.at = omega (arith, p.1) in
    inr (ap (λ (r : Result A Fault). script_cause origin (fault_in text r)) p.2 ∙ ap (λ (n : ℕ). Some (Script origin (record { at = n; kind = t.kind }))) at)
