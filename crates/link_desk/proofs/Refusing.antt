-- How a refusal of a session becomes one of a desk.
use Rattle.std.proofs.Common.{◌≡◌, subst}
use Rattle.link_rules.specs.declared.refusal.LinkError.{LinkError}
use Rattle.link_rules.specs.declared.refusal.LinkError.TheVariants as cause
use Rattle.link_core.specs.declared.session_error.SessionError.{SessionError}
use Rattle.link_core.specs.declared.session_error.SessionError.TheVariants.{Link}
use Rattle.link_core.specs.SessionErrors.{IsCause}
use Rattle.link_desk.specs.declared.state.DeskError.{DeskError}
use Rattle.link_desk.specs.declared.state.DeskError.TheVariants.{Script, Memory}
use Rattle.link_desk.specs.Openings.{IsScript}

-- the script that a session tells is the cause
pub script_told : (Is : LinkError → Type 0) (e : SessionError) (r : DeskError) → IsScript (λ origin script. e ≡ Link (cause.Script origin script)) r → IsCause Is e
    → IsScript (λ origin script. Is (cause.Script origin script)) r
script_told Is e (Script origin script) told may =
    let P : SessionError → Type 0 = λ x. IsCause Is x in
    (subst P told may).0
script_told Is e Memory told may = tt
