-- What each call of a history may be answered, and what the history leaves.
use Rattle.std.specs.Prelude.{ℕ, ◌≡◌, ◌<◌, ◌≤◌, ◌∷◌, Bool, true, List, [], length, filter, Err, MatchOption, Option, Some, None, option_map}
use Rattle.std.specs.Option.{IsSomeAnd, option_map_or}
use Rattle.link_closure.specs.Closure.{is_marked}
use Rattle.link_input.specs.declared.options.Options.{Options}
use Rattle.link_input.specs.declared.world.Scripts.{Scripts}
use Rattle.link_input.specs.InputFiles.{Batch, batch_of}
use Rattle.link_input.specs.Limits.{batch_limit}
use Rattle.link_script.specs.declared.lookup.Plain.{Plain}
use Rattle.link_rules.specs.declared.refusal.LinkError.{LinkError}
use Rattle.link_rules.specs.Answer.{BatchesEnd}
use Rattle.link_rules.specs.Names.{first_definition}
use Rattle.link_rules.specs.Places.{Bytes}
use Rattle.link_rules.specs.Rules.{elf_like}
use Rattle.link_rules.specs.Selection.{Selection}
use Rattle.link_rules.specs.World.{World, object_of}
use Rattle.link_core.specs.Sessions.{Held, held_world, with_batch}
use Rattle.link_core.specs.Steps.{Selects}
use Rattle.link_desk.specs.declared.entry.AddReply.{AddReply}
use Rattle.link_desk.specs.declared.entry.AddReply.TheVariants.{Added, Refused, NoMemory, Ended, Full}
use Rattle.link_desk.specs.declared.entry.AskReply.{AskReply}
use Rattle.link_desk.specs.declared.entry.AskReply.TheVariants.{Unknown, Known}
use Rattle.link_desk.specs.declared.entry.Entry.{Entry}
use Rattle.link_desk.specs.declared.entry.Entry.TheVariants.{Add, Ask}
use Rattle.link_desk.specs.Replies.{kind_of}

-- what a session stands for: what it was given, or none once it has ended
abbrev pub Standing : Type 0
Standing = Option (Held Plain)

-- the world of what a session was given, where a batch came; names are taken as they are
abbrev pub world_held : Held Plain → Option World
world_held h = held_world elf_like (λ name. name) h

-- how many objects are loaded
abbrev pub loaded_count : Selection → ℕ
loaded_count l = length (filter (λ mark. mark) l.marks)

-- a symbol counts as loaded unless it stands in an object that isn't
abbrev pub is_symbol_loaded : Selection → ℕ → Bool
is_symbol_loaded l s = option_map_or (is_marked l.marks) (object_of l.stage s) true

-- what a batch may be answered by a session that was given this
abbrev pub IsAddReply : Held Plain → Batch → AddReply → Type 0
IsAddReply h b (Added number loaded) =
    (length h.batches < batch_limit) × (number ≡ length h.batches)
    × IsSomeAnd (world_held (with_batch h b)) (λ w. (l : Selection) × Selects w l × (loaded ≡ loaded_count l))
IsAddReply h b (Refused kind) =
    (length h.batches < batch_limit)
    × ((cause : LinkError) × IsSomeAnd (world_held (with_batch h b)) (λ w. BatchesEnd w (Err cause)) × (kind_of cause ≡ Some kind))
IsAddReply h b NoMemory = length h.batches < batch_limit
IsAddReply h b Ended = ⊥
IsAddReply h b Full = batch_limit ≤ length h.batches

-- what a name may be answered where this is selected
abbrev pub IsFound : Selection → Bytes → AskReply → Type 0
IsFound l name Unknown = first_definition l.stage name ≡ None
IsFound l name (Known symbol loaded) = (first_definition l.stage name ≡ Some symbol) × (loaded ≡ is_symbol_loaded l symbol)

-- what a name may be answered by a session that was given this
abbrev pub IsAskReply : Held Plain → Bytes → AskReply → Type 0
IsAskReply h name reply = MatchOption (world_held h) (reply ≡ Unknown) (λ w. (l : Selection) × Selects w l × IsFound l name reply)

-- whether the call may be answered so by the session
abbrev pub IsReply : Standing → Entry → Type 0
IsReply None (Add b reply) = reply ≡ Ended
IsReply None (Ask name reply) = reply ≡ Unknown
IsReply (Some h) (Add b reply) = IsAddReply h (batch_of b) reply
IsReply (Some h) (Ask name reply) = IsAskReply h name reply

-- what an answered batch leaves
abbrev pub after_add : Standing → Batch → AddReply → Standing
after_add s b (Added number loaded) = option_map (λ h. with_batch h b) s
after_add s b (Refused kind) = None
after_add s b NoMemory = None
after_add s b Ended = s
after_add s b Full = s

-- what an answered call leaves
abbrev pub after : Standing → Entry → Standing
after s (Add b reply) = after_add s (batch_of b) reply
after s (Ask name reply) = s

-- what a history leaves
abbrev pub replay : Standing → List Entry → Standing
replay s [] = s
replay s (e ∷ es) = replay (after s e) es

-- each call of the history is answered as it may be at its place
abbrev pub IsLegal : Standing → List Entry → Type 0
IsLegal s [] = Unit {0}
IsLegal s (e ∷ es) = IsReply s e × IsLegal (after s e) es

-- what a contract sees of a state: the session, the calls that it got, and how many the book counts
pub record Desked : Type 0 where
  pub session : Standing
  pub history : List Entry
  pub book : ℕ

-- a session to which no batch came
abbrev pub opened : Options → Scripts → Standing
opened options texts = Some (record { demangler = record {}; options = options; texts = texts; batches = [] })

-- the history replays from a session without a batch to the one that stands, and the book is its length
pub record IsReplayed (options : Options) (texts : Scripts) (d : Desked) : Type 0 where
  pub session : d.session ≡ replay (opened options texts) d.history
  pub legal : IsLegal (opened options texts) d.history
  pub book : d.book ≡ length d.history
