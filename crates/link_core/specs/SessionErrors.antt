-- How a session tells why it refuses a call.
use Rattle.std.specs.Prelude.{◌≡◌, ◌≢◌, ◌⊎◌, ⊤}
use Rattle.link_rules.specs.declared.refusal.LinkError.{LinkError}
use Rattle.link_rules.specs.declared.refusal.LinkError.TheVariants as link
use Rattle.link_core.specs.declared.session_error.SessionError.{SessionError}
use Rattle.link_core.specs.declared.session_error.SessionError.TheVariants.{Link, Ended, Memory}

-- an error of a link, as a session tells it
abbrev pub IsToldAs : LinkError → SessionError → Type 0
IsToldAs cause told = ((cause ≡ link.Memory) × (told ≡ Memory)) ⊎ ((cause ≢ link.Memory) × (told ≡ Link cause))

-- a session that stands refuses with such a cause, or for want of memory
abbrev pub IsCause : (LinkError → Type 0) → SessionError → Type 0
IsCause Is (Link cause) = Is cause × (cause ≢ link.Memory)
IsCause Is Ended = ⊥
IsCause Is Memory = ⊤
