-- The words of a command.
use Rattle.std.specs.Prelude.{◌≡◌, ◌⊎◌, ℕ, ◌≤◌, List, [], ◌∷◌, codes, decimal}
use Rattle.link_rules.specs.Places.{Bytes}
use Rattle.link_program.specs.declared.command.Command.{Command}
use Rattle.link_program.specs.declared.command.Command.TheVariants.{Link, Why, Gc, Bulk, Verdef, Check}
use Rattle.link_program.specs.declared.run.Reading.{Reading}
use Rattle.link_program.specs.declared.run.Reading.TheVariants as asked

-- the words that write a command
abbrev pub words_of : Command → List Bytes
words_of (Link workers) = codes "link" ∷ decimal workers ∷ []
words_of (Why workers) = codes "why" ∷ decimal workers ∷ []
words_of (Gc workers) = codes "gc" ∷ decimal workers ∷ []
words_of (Bulk members workers) = codes "bulk" ∷ decimal members ∷ decimal workers ∷ []
words_of Verdef = codes "verdef" ∷ []
words_of Check = codes "check" ∷ []

-- its numbers are in their range
abbrev pub IsInRange : Command → Type 0
IsInRange (Link workers) = (1 ≤ workers) × (workers ≤ 256)
IsInRange (Why workers) = (1 ≤ workers) × (workers ≤ 256)
IsInRange (Gc workers) = (1 ≤ workers) × (workers ≤ 256)
IsInRange (Bulk members workers) = ((1 ≤ members) × (members ≤ 100000)) × ((1 ≤ workers) × (workers ≤ 256))
IsInRange Verdef = Unit {0}
IsInRange Check = Unit {0}

abbrev pub IsCommand : List Bytes → Command → Type 0
IsCommand words command = (words ≡ words_of command) × IsInRange command

-- the words ask for a link of the made-up world of so many members
abbrev pub IsBulk : List Bytes → ℕ → Type 0
IsBulk words members = (workers : ℕ) × IsCommand words (Bulk members workers)

-- the command that asks this of a manifest
abbrev pub command_read : Reading → Command
command_read (asked.Link workers) = Link workers
command_read (asked.Why workers) = Why workers
command_read (asked.Gc workers) = Gc workers
command_read asked.Verdef = Verdef
command_read asked.Check = Check

-- the words ask this of a manifest
abbrev pub IsReading : List Bytes → Reading → Type 0
IsReading words reading = IsCommand words (command_read reading)

-- the words ask for something that reads a manifest
abbrev pub ReadsManifest : List Bytes → Type 0
ReadsManifest words = (reading : Reading) × IsReading words reading

-- the words write no command
abbrev pub IsNoCommand : List Bytes → Type 0
IsNoCommand words = (command : Command) → IsCommand words command → ⊥

-- the words ask for nothing that reads
abbrev pub ReadsNothing : List Bytes → Type 0
ReadsNothing words = IsNoCommand words ⊎ ((members : ℕ) × IsBulk words members)
