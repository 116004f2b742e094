-- How a session tells why it refuses a batch.
use Rattle.std.specs.Prelude.{◌≡◌, Option, Some, None}
use Rattle.link_rules.specs.declared.refusal.LinkError.{LinkError}
use Rattle.link_rules.specs.declared.refusal.LinkError.TheVariants as cause
use Rattle.link_core.specs.declared.session_error.SessionError.{SessionError}
use Rattle.link_core.specs.declared.session_error.SessionError.TheVariants as session
use Rattle.link_desk.specs.declared.kind.RefusalKind.{RefusalKind}
use Rattle.link_desk.specs.declared.kind.RefusalKind.TheVariants.{Script, MultipleVersionScripts, LateVersionScript, TooMany, NoInputs, SectionInTwoGroups, DuplicateSymbols, UndefinedVersion}
use Rattle.link_desk.specs.declared.entry.AddReply.{AddReply}
use Rattle.link_desk.specs.declared.entry.AddReply.TheVariants.{Refused, NoMemory, Ended}

-- the cause without its data; want of memory has no kind
abbrev pub kind_of : LinkError → Option RefusalKind
kind_of (cause.Script origin error) = Some Script
kind_of (cause.MultipleVersionScripts script) = Some MultipleVersionScripts
kind_of (cause.LateVersionScript script) = Some LateVersionScript
kind_of (cause.TooMany kind count) = Some TooMany
kind_of cause.NoInputs = Some NoInputs
kind_of (cause.SectionInTwoGroups file section) = Some SectionInTwoGroups
kind_of (cause.DuplicateSymbols lines) = Some DuplicateSymbols
kind_of (cause.UndefinedVersion name version) = Some UndefinedVersion
kind_of cause.Memory = None

-- a cause as a reply
abbrev pub reply_of : Option RefusalKind → AddReply
reply_of (Some kind) = Refused kind
reply_of None = NoMemory

-- a refusal as a reply
abbrev pub IsToldAs : SessionError → AddReply → Type 0
IsToldAs (session.Link cause) reply = reply ≡ reply_of (kind_of cause)
IsToldAs session.Ended reply = reply ≡ Ended
IsToldAs session.Memory reply = reply ≡ NoMemory
