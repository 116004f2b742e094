-- What holds at each stage of a link, by induction over its batches.
use Rattle.std.proofs.Common.{◌≡◌, List, [], ◌∷◌, Bool, true, false, Option, None, Some, MatchOption, sym, subst, refl}
use Rattle.std.specs.Prelude.{Ok, Err}
use Rattle.link_input.specs.InputFiles.{Batch}
use Rattle.link_rules.specs.declared.refusal.LinkError.{LinkError}
use Rattle.link_rules.specs.World.{World, Stage, start_of, with_batch}
use Rattle.link_rules.specs.Loading.{IsLoaded}
use Rattle.link_rules.specs.Marking.{ended}
use Rattle.link_rules.specs.Selection.{Selection, selection_of}
use Rattle.link_rules.specs.Refusals.{batch_refusal, group_refusal}
use Rattle.link_rules.specs.Answer.{End, LinksBatch, EndsWith, BatchesEnd}

-- a link that ends well has no cause
no-cause : (o : Option LinkError) (l : Selection) (A : Type 0) → MatchOption o A (λ e. ◌≡◌ {A = End} (Ok l) (Err e)) → A
no-cause None l A goes_on = goes_on
no-cause (Some e) l A same = absurd (cc)

-- the same selection
pub ok-same : (a b : Selection) → ◌≡◌ {A = End} (Ok a) (Ok b) → a ≡ b
ok-same a b same = cc

-- what a link arrives at, where a property of stages holds
pub record Arrives (P : Stage → Type 0) (l : Selection) : Type 0 where
  pub holds : P l.stage
  pub selected : l ≡ selection_of l.stage l.marks
  pub loaded : IsLoaded l.stage l.marks

-- a batch goes on with loaded objects
pub batch-goes-on : (is_late : Bool) (before : Stage) (b : Batch) (l : Selection) (GoesOn : Selection → Type 0) → LinksBatch is_late before b GoesOn (Ok l)
    → (marks : List Bool) × IsLoaded (with_batch before b) marks × GoesOn (selection_of (with_batch before b) marks)
batch-goes-on is_late before b l GoesOn links =
    let found = no-cause (batch_refusal is_late before b) l _ links in
    (found.0, found.1, no-cause (group_refusal (selection_of (with_batch before b) found.0)) l _ found.2)

module _ (P : Stage → Type 0) (grows : (w : Stage) (b : Batch) → P w → P (with_batch w b))
    (stays : (w : Stage) (marks : List Bool) → P w → IsLoaded w marks → P (ended (selection_of w marks))) where
  -- what holds at the start, and goes on to hold, holds at the end
  pub arrives : (is_late : Bool) (before : Stage) (b : Batch) (later : List Batch) (l : Selection) → P before → EndsWith is_late before b later (Ok l) → Arrives P l
  arrives is_late before b [] l held links =
      let on = batch-goes-on is_late before b l (λ k. ◌≡◌ {A = End} (Ok l) (Ok k)) links in
      let here : Arrives P (selection_of (with_batch before b) on.0) = record { holds = grows before b held; selected = refl; loaded = on.1 } in
      subst (Arrives P) (sym (ok-same l (selection_of (with_batch before b) on.0) on.2)) here
  arrives is_late before b (c ∷ cs) l held links =
      let on = batch-goes-on is_late before b l (λ k. EndsWith true (ended k) c cs (Ok l)) links in
      arrives true (ended (selection_of (with_batch before b) on.0)) c cs l (stays (with_batch before b) on.0 (grows before b held) on.1) on.2

  -- the same of all batches of a world
  pub arrives-world : (w : World) (l : Selection) → P (start_of w) → BatchesEnd w (Ok l) → Arrives P l
  arrives-world w l held ends = arrives false (start_of w) w.first w.later l held ends
