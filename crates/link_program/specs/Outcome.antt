-- What a command writes, by how it ends.
use Rattle.std.specs.Prelude.{◌≡◌, ◌≢◌, ◌⊎◌, ℕ, List, [], ◌++◌, Option, IsSome, IfSome, Ok, Err, codes}
use Rattle.link_manifest_bulk.specs.Bulk.{bulk_objects}
use Rattle.link_manifest_bulk.specs.World.{bulk_world}
use Rattle.link_rules.specs.Places.{Bytes}
use Rattle.link_input.specs.ObjectFile.{ObjectFile}
use Rattle.link_rules.specs.Report.{report_text}
use Rattle.link_rules.specs.World.{World}
use Rattle.link_rules.specs.Linked.{Linked as Answer}
use Rattle.link_rules.specs.Answer.{IsLinked, IsReport, IsRefusalText}
use Rattle.link_manifest.specs.declared.fault.ManifestFault.{ManifestFault}
use Rattle.link_manifest.specs.declared.manifest.Manifest.{Manifest as Described}
use Rattle.link_manifest.specs.FaultText.{fault_text}
use Rattle.link_manifest.specs.Manifest.{manifest_of}
use Rattle.link_report.specs.Summary.{summary_text}
use Rattle.link_program_streams.specs.Streams.{Takes, TakesPart}
use Rattle.link_program.specs.declared.run.Reading.{Reading}
use Rattle.link_program.specs.declared.run.Reading.TheVariants as asked
use Rattle.link_program.specs.declared.run.Told.{Told}
use Rattle.link_program.specs.declared.run.Told.TheVariants.{Report, Summary}
use Rattle.link_program.specs.declared.status.Status.{Status}
use Rattle.link_program.specs.declared.status.Status.TheVariants.{Linked, Refused, Usage, Manifest, ReadFault, WriteFault, Memory, Fails}
use Rattle.link_program.specs.Check.{IsCheckOf}
use Rattle.link_program.specs.Described.{error_line, world_of_manifest}
use Rattle.link_program.specs.Gc.{IsGcReport}
use Rattle.link_program.specs.Grammar.{IsBulk, IsInRange, IsNoCommand, IsReading, command_read}
use Rattle.link_program.specs.Verdef.{IsVerdefOf}
use Rattle.link_program.specs.Why.{IsWhyReport}

-- the number that the program ends with
abbrev pub status_number : Status → ℕ
status_number Linked = 0
status_number Refused = 1
status_number Usage = 2
status_number Manifest = 3
status_number ReadFault = 4
status_number WriteFault = 5
status_number Memory = 6
status_number Fails = 7

-- the text of a link of what these bytes describe, by the status; where the link isn't refused, so much is told of the world
abbrev pub IsTextOf : (World → Bytes → Type 0) → Bytes → Status → Bytes → Type 0
IsTextOf IsTold bytes Linked text = (m : Described) × (manifest_of bytes ≡ Ok m) × IsTold (world_of_manifest m) text
IsTextOf IsTold bytes Refused text =
    (m : Described) × (cause : Bytes) × (manifest_of bytes ≡ Ok m) × IsRefusalText (world_of_manifest m) cause × (text ≡ error_line cause)
IsTextOf IsTold bytes Manifest text =
    (fault : ManifestFault) × (manifest_of bytes ≡ Err fault) × (text ≡ error_line (codes "manifest: " ++ fault_text fault))
IsTextOf IsTold bytes Usage text = ⊥
IsTextOf IsTold bytes ReadFault text = ⊥
IsTextOf IsTold bytes WriteFault text = ⊥
IsTextOf IsTold bytes Memory text = ⊥
IsTextOf IsTold bytes Fails text = ⊥

-- what is told of a link with these objects
abbrev pub told_text : Told → List ObjectFile → Answer → Bytes
told_text Report objects linked = report_text linked
told_text (Summary members) objects linked = summary_text members objects linked

-- it is told of the answer of a link of the world
abbrev pub IsToldOf : World → (Answer → Bytes) → Bytes → Type 0
IsToldOf w tell text = (linked : Answer) × IsLinked w linked × (text ≡ tell linked)

-- the text of a link of a world, by the status; where the link isn't refused, this is so of it
abbrev pub IsWorldText : World → (Bytes → Type 0) → Status → Bytes → Type 0
IsWorldText w IsTold Linked text = IsTold text
IsWorldText w IsTold Refused text = (cause : Bytes) × IsRefusalText w cause × (text ≡ error_line cause)
IsWorldText w IsTold Manifest text = ⊥
IsWorldText w IsTold Usage text = ⊥
IsWorldText w IsTold ReadFault text = ⊥
IsWorldText w IsTold WriteFault text = ⊥
IsWorldText w IsTold Memory text = ⊥
IsWorldText w IsTold Fails text = ⊥

-- the summary of a link of the made-up world of so many members
abbrev pub IsSummary : ℕ → Bytes → Type 0
IsSummary members text = (linked : Answer) × IsLinked (bulk_world members) linked × (text ≡ summary_text members (bulk_objects members) linked)

-- the words ask for it
abbrev pub IsSummaryFor : List Bytes → Bytes → Type 0
IsSummaryFor words text = (members : ℕ) × IsBulk words members × IsSummary members text

-- what is said of some bytes; where the source tells, they are all that it had left
abbrev pub IsWholeText : (Bytes → Status → Bytes → Type 0) → Option Bytes → Status → Bytes → Type 0
IsWholeText IsOf left status text = (bytes : Bytes) × IfSome left (λ all. all ≡ bytes) × IsOf bytes status text

-- the text of a command that reads what a source has left, by the status
abbrev pub IsReadText : (Bytes → Status → Bytes → Type 0) → Option Bytes → Status → Bytes → Type 0
IsReadText IsOf left Linked text = IsWholeText IsOf left Linked text
IsReadText IsOf left Refused text = IsWholeText IsOf left Refused text
IsReadText IsOf left Manifest text = IsWholeText IsOf left Manifest text
IsReadText IsOf left Fails text = IsWholeText IsOf left Fails text
IsReadText IsOf left ReadFault text = text ≡ error_line (codes "read fault")
IsReadText IsOf left Usage text = ⊥
IsReadText IsOf left WriteFault text = ⊥
IsReadText IsOf left Memory text = ⊥

-- the text that is asked for, of bytes that are read
abbrev pub text_read : Reading → Bytes → Status → Bytes → Type 0
text_read (asked.Link workers) = IsTextOf IsReport
text_read (asked.Why workers) = IsTextOf IsWhyReport
text_read (asked.Gc workers) = IsTextOf IsGcReport
text_read asked.Verdef = IsVerdefOf
text_read asked.Check = IsCheckOf

-- its number is in its range
abbrev pub IsReadingInRange : Reading → Type 0
IsReadingInRange reading = IsInRange (command_read reading)

-- the text that is asked for, where the words ask for something that reads a manifest
abbrev pub IsTextRead : List Bytes → Option Bytes → Status → Bytes → Type 0
IsTextRead words left status text = (reading : Reading) × IsReading words reading × IsReadText (text_read reading) left status text

-- the text for these words and what the source has left, by the status
abbrev pub IsTextFor : List Bytes → Option Bytes → Status → Bytes → Type 0
IsTextFor words left Linked text = IsTextRead words left Linked text ⊎ IsSummaryFor words text
IsTextFor words left Refused text = IsTextRead words left Refused text
IsTextFor words left Manifest text = IsTextRead words left Manifest text
IsTextFor words left Fails text = IsTextRead words left Fails text
IsTextFor words left ReadFault text = IsTextRead words left ReadFault text
IsTextFor words left Usage text = IsNoCommand words × (text ≡ error_line (codes "usage"))
IsTextFor words left WriteFault text = ⊥
IsTextFor words left Memory text = text ≡ []

-- the status and the text that are due, where no fault comes between: by the words, and by what a source that tells has left
abbrev pub IsDue : List Bytes → Option Bytes → Status → Bytes → Type 0
IsDue words left Linked text = (IsSome left × IsTextRead words left Linked text) ⊎ IsSummaryFor words text
IsDue words left Refused text = IsSome left × IsTextFor words left Refused text
IsDue words left Manifest text = IsSome left × IsTextFor words left Manifest text
IsDue words left Fails text = IsSome left × IsTextFor words left Fails text
IsDue words left Usage text = IsTextFor words left Usage text
IsDue words left ReadFault text = ⊥
IsDue words left WriteFault text = ⊥
IsDue words left Memory text = ⊥

-- ---- what comes of a run

-- unless the sink failed, it took the whole text of the status, by the words and what the source had left
abbrev pub IsWritten : List Bytes → Option Bytes → Status → Option Bytes → Option Bytes → Type 0
IsWritten words left status before after = status ≢ WriteFault → (text : Bytes) × IsTextFor words left status text × Takes before after text

-- where the sink failed, it took a part of the text of the status that would have come
abbrev pub IsCutShort : List Bytes → Option Bytes → Status → (Status → Type 0) → Option Bytes → Option Bytes → Type 0
IsCutShort words left status Comes before after =
    status ≡ WriteFault → (due : Status) × (text : Bytes) × IsTextFor words left due text × TakesPart before after text × Comes due

-- with this status the source was read to its end
abbrev pub ReadsAll : Status → Type 0
ReadsAll status = (status ≡ Linked) ⊎ (status ≡ Refused) ⊎ (status ≡ Fails)

-- the text of this status comes of a source that didn't fail
abbrev pub IsOfWholeSource : Status → Type 0
IsOfWholeSource status = (status ≢ ReadFault) × (status ≢ Memory)
