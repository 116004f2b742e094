-- The size of the groups in which objects are read changes no answer.
use Rattle.std.proofs.Common.{◌≡◌, ℕ, List, [], ◌∷◌, Bool, true, false, Option, None, Some, MatchOption, ap, inl, inr}
use Rattle.std.specs.Prelude.{◌↔◌, Ok, Err}
use Rattle.link_input.specs.InputFiles.{Batch}
use Rattle.link_rules.specs.Linked.{Linked}
use Rattle.link_rules.specs.declared.refusal.LinkError.{LinkError}
use Rattle.link_rules.specs.Places.{Bytes}
use Rattle.link_rules.specs.Rules.{PlatformRules}
use Rattle.link_rules.specs.World.{Given, World, Stage, start_of, with_batch, world_of, with_files_per_group}
use Rattle.link_rules.specs.Marking.{ended}
use Rattle.link_rules.specs.Selection.{Selection, selection_of}
use Rattle.link_rules.specs.Refusals.{text_refusal, batch_refusal, group_refusal}
use Rattle.link_rules.specs.Answer.{End, LinksBatch, EndsWith, BatchesEnd, IsLinked, IsRefused, IsRefusedLate}

-- a stage with another size
abbrev sized : ℕ → Stage → Stage
sized n w = record w { options = record w.options { files_per_group = n } }

-- a world with another size
abbrev sized_world : ℕ → World → World
sized_world n w = record w { options = record w.options { files_per_group = n } }

-- what is selected, with another size
abbrev sized_selection : ℕ → Selection → Selection
sized_selection n l = record l { stage = sized n l.stage }

-- an end with another size
abbrev sized_end : ℕ → End → End
sized_end n (Ok l) = Ok (sized_selection n l)
sized_end n (Err e) = Err e

-- a cause is the same, and what follows goes on
by-cause : (o : Option LinkError) (n : ℕ) (end : End) (A B : Type 0) → (A → B) → MatchOption o A (λ e. end ≡ Err e) → MatchOption o B (λ e. sized_end n end ≡ Err e)
by-cause None n end A B goes_on links = goes_on links
by-cause (Some e) n end A B goes_on links = ap (sized_end n) links

-- a batch leads to the same
batch-alike : (n : ℕ) (is_late : Bool) (before : Stage) (b : Batch) (end : End) (P Q : Selection → Type 0) → ((l : Selection) → P l → Q (sized_selection n l))
    → LinksBatch is_late before b P end → LinksBatch is_late (sized n before) b Q (sized_end n end)
batch-alike n is_late before b end P Q goes_on = by-cause (batch_refusal is_late before b) n end _ _
    (λ found. (found.0, found.1, by-cause (group_refusal (selection_of (with_batch before b) found.0)) n end _ _ (goes_on (selection_of (with_batch before b) found.0)) found.2))

-- the batches lead to the same
ends-alike : (n : ℕ) (is_late : Bool) (before : Stage) (b : Batch) (later : List Batch) (end : End)
    → EndsWith is_late before b later end → EndsWith is_late (sized n before) b later (sized_end n end)
ends-alike n is_late before b [] end = batch-alike n is_late before b end (λ l. end ≡ Ok l) (λ l. sized_end n end ≡ Ok l) (λ l is. ap (sized_end n) is)
ends-alike n is_late before b (c ∷ cs) end = batch-alike n is_late before b end
    (λ l. EndsWith true (ended l) c cs end) (λ l. EndsWith true (ended l) c cs (sized_end n end)) (λ l. ends-alike n true (ended l) c cs end)

-- the batches of a world lead to the same
world-alike : (n : ℕ) (w : World) (end : End) → BatchesEnd w end → BatchesEnd (sized_world n w) (sized_end n end)
world-alike n w end = ends-alike n false (start_of w) w.first w.later end

-- a world has the same answer with another size
linked-sized : (n : ℕ) (w : World) (linked : Linked) → IsLinked w linked → IsLinked (sized_world n w) linked
linked-sized n w linked p =
    record { starts = p.starts; last = sized_selection n p.last; ends = world-alike n w (Ok p.last) p.ends; goes_on = p.goes_on; is = p.is }

-- and the same late refusal
late-sized : (n : ℕ) (w : World) (error : LinkError) → IsRefusedLate w error → IsRefusedLate (sized_world n w) error
late-sized n w error (inl ends) = inl (world-alike n w (Err error) ends)
late-sized n w error (inr (last, ends, is)) = inr (sized_selection n last, world-alike n w (Ok last) ends, is)

-- by whether a text is a cause
refused-by : (text : Option LinkError) (n : ℕ) (w : World) (error : LinkError)
    → MatchOption text (IsRefusedLate w error) (λ e. error ≡ e) → MatchOption text (IsRefusedLate (sized_world n w) error) (λ e. error ≡ e)
refused-by None n w error refused = late-sized n w error refused
refused-by (Some e) n w error refused = refused

-- and the same refusal
refused-sized : (n : ℕ) (w : World) (error : LinkError) → IsRefused w error → IsRefused (sized_world n w) error
refused-sized n w error refused = refused-by (text_refusal w) n w error refused

-- a world has the same answer whatever the size
pub linked-alike : (platform : PlatformRules) (demangle : Bytes → Bytes) (given : Given) (n : ℕ) (linked : Linked)
    → IsLinked (world_of platform demangle given) linked ↔ IsLinked (world_of platform demangle (with_files_per_group n given)) linked
linked-alike platform demangle given n linked = (
  linked-sized n (world_of platform demangle given) linked,
  linked-sized given.options.files_per_group (world_of platform demangle (with_files_per_group n given)) linked,
)

-- and the same refusal
pub refused-alike : (platform : PlatformRules) (demangle : Bytes → Bytes) (given : Given) (n : ℕ) (error : LinkError)
    → IsRefused (world_of platform demangle given) error ↔ IsRefused (world_of platform demangle (with_files_per_group n given)) error
refused-alike platform demangle given n error = (
  refused-sized n (world_of platform demangle given) error,
  refused-sized given.options.files_per_group (world_of platform demangle (with_files_per_group n given)) error,
)
