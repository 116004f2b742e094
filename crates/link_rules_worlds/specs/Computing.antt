-- The answer to a world as something that can be computed: the loaded objects of each batch by rounds.
use Rattle.std.specs.Prelude.{ℕ, zero, suc, ◌&&◌, ◌||◌, List, [], ◌∷◌, length, Bool, false, true, not, Option, Some, None, if◌then◌else◌, option_and_then}
use Rattle.std.specs.List.{list_any, list_all, enumerate_from}
use Rattle.link_closure.specs.Closure.{is_marked}
use Rattle.link_input.specs.InputFiles.{Batch}
use Rattle.link_input.specs.ObjectFile.{is_optional}
use Rattle.link_input.specs.Symbols.{Symbol, object_in}
use Rattle.link_rules.specs.declared.refusal.LinkError.{LinkError}
use Rattle.link_rules.specs.Places.{Bytes, each_from, is_number}
use Rattle.link_rules.specs.World.{World, Stage, start_of, with_batch, object_of}
use Rattle.link_rules.specs.Names.{first_definition}
use Rattle.link_rules.specs.Loading.{is_root, request_of, root_names}
use Rattle.link_rules.specs.Marking.{ended}
use Rattle.link_rules.specs.Selection.{Selection, selection_of}
use Rattle.link_rules.specs.Undefined.{Resolution, resolved}
use Rattle.link_rules.specs.Refusals.{text_refusal, batch_refusal, group_refusal, late_refusal}
use Rattle.link_rules.specs.Answer.{linked_from, IsReport, IsRefusalText}
use Rattle.link_rules.specs.Report.{report_text, refusal_text}

-- ---- the loaded objects of a batch

-- the object of a symbol, and the object that the symbol asks for
abbrev pub Request : Type 0
Request = Option ℕ × Option ℕ

-- what the symbol of an id asks for
abbrev pub request_from : Stage → ℕ → Symbol → Request
request_from w s x = (object_in x.origin, request_of w s x)

-- what all symbols ask for
abbrev pub requests_at : Stage → List Request
requests_at w = each_from (request_from w) 0 w.symbols

-- a marked object asks for g
abbrev pub asks_for : List Bool → ℕ → Request → Bool
asks_for marks g (None, to) = false
asks_for marks g (Some f, to) = is_marked marks f && is_number to g

-- the marks after one round more
abbrev pub grown : List Request → List Bool → List Bool
grown requests marks = each_from (λ g b. b || list_any (asks_for marks g) requests) 0 marks

-- the marks after so many rounds
abbrev pub grown_times : ℕ → List Request → List Bool → List Bool
grown_times zero requests marks = marks
grown_times (suc n) requests marks = grown_times n requests (grown requests marks)

-- the objects that are loaded whatever refers to them
abbrev pub root_marks : Stage → List Bool
root_marks w = each_from (λ f o. is_root w f) 0 w.objects

-- the loaded objects: as many rounds as there are objects
abbrev pub loaded_by_rounds : Stage → List Bool
loaded_by_rounds w = grown_times (length w.objects) (requests_at w) (root_marks w)

-- marked, if it is an object
abbrev pub is_marked_if : List Bool → Option ℕ → Bool
is_marked_if marks None = true
is_marked_if marks (Some g) = is_marked marks g

-- what a marked object asks for is marked
abbrev pub is_served : List Bool → Request → Bool
is_served marks (None, to) = true
is_served marks (Some f, to) = not (is_marked marks f) || is_marked_if marks to

-- the marks hold what an earlier batch loaded, the objects that are not optional and those of the root names, and what each marked object asks for
abbrev pub is_closed : Stage → List Bool → Bool
is_closed w marks =
    list_all (λ m. not m.1 || is_marked marks m.0) (enumerate_from 0 w.earlier.loaded)
    && list_all (λ o. is_optional o.1 || is_marked marks o.0) (enumerate_from 0 w.objects)
    && list_all (λ name. is_marked_if marks (option_and_then (object_of w) (first_definition w name))) (root_names w)
    && list_all (is_served marks) (requests_at w)

-- ---- how the batches end

-- with what is selected after the last one, by a cause, or not before more rounds
pub data Ending : Type 0 where
  arrived : (last : Selection) → Ending
  stopped : (cause : LinkError) → Ending
  rounds_missing : Ending

-- by a cause, or else with what follows what is selected
abbrev pub unless_cause : Option LinkError → (Selection → Ending) → Selection → Ending
unless_cause None next l = next l
unless_cause (Some cause) next l = stopped cause

-- with these loaded objects, if they are closed
abbrev pub ending_loaded : Stage → (Selection → Ending) → List Bool → Ending
ending_loaded w next marks =
    if is_closed w marks then unless_cause (group_refusal (selection_of w marks)) next (selection_of w marks) else rounds_missing

-- by a cause of the batch, or else with its loaded objects
abbrev pub ending_unless : Option LinkError → Stage → (Selection → Ending) → Ending
ending_unless None w next = ending_loaded w next (loaded_by_rounds w)
ending_unless (Some cause) w next = stopped cause

-- with a batch, and then the later ones
abbrev pub ending_of : Bool → Stage → Batch → List Batch → Ending
ending_of is_late before b [] = ending_unless (batch_refusal is_late before b) (with_batch before b) (λ l. arrived l)
ending_of is_late before b (c ∷ cs) =
    ending_unless (batch_refusal is_late before b) (with_batch before b) (λ l. ending_of true (ended l) c cs)

-- ---- the outcome

-- what a link of a world answers, or that more rounds are needed
pub data Outcome : Type 0 where
  report : (text : Bytes) → Outcome
  refusal : (text : Bytes) → Outcome
  too_few_rounds : Outcome

-- the rounds were enough
abbrev pub is_told : Outcome → Bool
is_told (report text) = true
is_told (refusal text) = true
is_told too_few_rounds = false

-- the report of a resolution, or why it is refused
abbrev pub outcome_from : Resolution → Option LinkError → Outcome
outcome_from r None = report (report_text (linked_from r))
outcome_from r (Some error) = refusal (refusal_text error)

-- the outcome of a resolution
abbrev pub outcome_with : Resolution → Outcome
outcome_with r = outcome_from r (late_refusal r)

-- the outcome by how the batches end
abbrev pub outcome_at : Ending → Outcome
outcome_at (arrived l) = outcome_with (resolved l)
outcome_at (stopped error) = refusal (refusal_text error)
outcome_at rounds_missing = too_few_rounds

-- the outcome, where no text of the options is a cause
abbrev pub outcome_unless : World → Option LinkError → Outcome
outcome_unless w None = outcome_at (ending_of false (start_of w) w.first w.later)
outcome_unless w (Some error) = refusal (refusal_text error)

-- the text that a link of the world answers
abbrev pub outcome_of : World → Outcome
outcome_of w = outcome_unless w (text_refusal w)

-- it is what the definitions say
abbrev pub IsOutcome : World → Outcome → Type 0
IsOutcome w (report text) = IsReport w text
IsOutcome w (refusal text) = IsRefusalText w text
IsOutcome w too_few_rounds = ⊥

-- a world, and what a link of it answers
pub record Case : Type 0 where
  pub world : World
  pub outcome : Outcome

-- a link of the world answers this
abbrev pub IsAnswered : Case → Type 0
IsAnswered c = IsOutcome c.world c.outcome

-- so it is with each of these
abbrev pub AreAnswered : List Case → Type 0
AreAnswered [] = Unit {0}
AreAnswered (c ∷ cs) = IsAnswered c × AreAnswered cs
