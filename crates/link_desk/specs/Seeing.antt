-- What callers see of the batches that were added.
use Rattle.std.specs.Prelude.{ℕ, ◌≡◌, ◌≢◌, ◌<◌, ◌&&◌, Bool, IsTrue, List, slice_get, Some}
use Rattle.std.specs.List.{list_any}
use Rattle.std.specs.Str.{bytes_eq}
use Rattle.link_input.specs.InputFiles.{Batch, batch_files, batch_of}
use Rattle.link_input.specs.Symbols.{Symbol, symbols_of}
use Rattle.link_rules.specs.Names.{is_listed}
use Rattle.link_rules.specs.Places.{Bytes}
use Rattle.link_desk.specs.declared.entry.AddReply.TheVariants.{Added, Refused, NoMemory, Ended, Full}
use Rattle.link_desk.specs.declared.entry.AskReply.{AskReply}
use Rattle.link_desk.specs.declared.entry.AskReply.TheVariants.{Unknown}
use Rattle.link_desk.specs.declared.entry.Entry.{Entry}
use Rattle.link_desk.specs.declared.entry.Entry.TheVariants.{Add, Ask}
use Rattle.link_desk.specs.declared.pass.Kept.{Kept}
use Rattle.link_desk.specs.Passes.{Carried, IsCallAt}

-- the symbol stands in the list of definitions of this name
abbrev pub is_definition_of : Bytes → Symbol → Bool
is_definition_of name x = is_listed x && bytes_eq x.name name

-- the batch brings a definition of the name; that doesn't depend on the places of its objects
abbrev pub defines : Bytes → Batch → Bool
defines name b = list_any (is_definition_of name) (symbols_of 0 (batch_files b))

-- the call adds a batch that defines the name
abbrev pub AddsName : Bytes → Entry → Type 0
AddsName name (Add b (Added number loaded)) = IsTrue (defines name (batch_of b))
AddsName name (Add b (Refused kind)) = ⊥
AddsName name (Add b NoMemory) = ⊥
AddsName name (Add b Ended) = ⊥
AddsName name (Add b Full) = ⊥
AddsName name (Ask other reply) = ⊥

-- the call ends the session
abbrev pub IsEnding : Entry → Type 0
IsEnding (Add b (Added number loaded)) = ⊥
IsEnding (Add b (Refused kind)) = Unit {0}
IsEnding (Add b NoMemory) = Unit {0}
IsEnding (Add b Ended) = ⊥
IsEnding (Add b Full) = ⊥
IsEnding (Ask name reply) = ⊥

-- no call between these places ends the session
abbrev pub GoesOn : List Entry → ℕ → ℕ → Type 0
GoesOn history i j = (k : ℕ) (e : Entry) → i < k → k < j → slice_get history k ≡ Some e → IsEnding e → ⊥

-- a name that an earlier call added is known, where the session hasn't ended since
abbrev pub SeesAdded : List Entry → Type 0
SeesAdded history =
    (i j : ℕ) (e : Entry) (name : Bytes) (reply : AskReply) → i < j → slice_get history i ≡ Some e → AddsName name e → GoesOn history i j
    → slice_get history j ≡ Some (Ask name reply) → reply ≢ Unknown

-- a pass that added a name knows it later, where the session hasn't ended since
abbrev pub SeesOwn : List Entry → List Carried → Type 0
SeesOwn history passes =
    (p j k : ℕ) (x y : Kept) (name : Bytes) (reply : AskReply) → j < k → IsCallAt passes p j x → IsCallAt passes p k y → AddsName name x.entry
    → GoesOn history x.place y.place → y.entry ≡ Ask name reply → reply ≢ Unknown
