-- Where no symbol of a link has a version, a definition is its own definition, whatever came in which batch.
use Rattle.std.proofs.Common.{◌≡◌, ℕ, zero, suc, ◌+◌, List, [], ◌∷◌, ◌++◌, Bool, refl, sym, ◌∙◌, ap, subst, Some, None, Option, slice_get}
use Rattle.std.specs.Prelude.{Ok}
use Rattle.std.specs.Option.{option_map_or}
use Rattle.link_input.specs.InputFiles.{Batch}
use Rattle.link_input.specs.Symbols.{Symbol}
use Rattle.link_rules.specs.Places.{each_from}
use Rattle.link_rules.specs.World.{World, Stage, start_of, with_batch}
use Rattle.link_rules.specs.Loading.{IsLoaded}
use Rattle.link_rules.specs.Marking.{ended}
use Rattle.link_rules.specs.Selection.{Selection, selection_of, loaded_target, target_of}
use Rattle.link_rules.specs.Undefined.{definition}
use Rattle.link_rules.specs.Answer.{BatchesEnd}
use Rattle.link_rules.proofs.Settled.{IsListed, none_some}
use Rattle.link_rules.proofs.Twice.{undefined, NoVersions, EarlierListed, target_of_is, kept-listed, definition-twice}
use Rattle.link_rules.proofs.Batches.{arrives-world}

module _ {X : Type 0} where
  -- what stands in a list stands in a longer one
  pub slice_get-more : (xs ys : List X) (k : ℕ) (x : X) → slice_get xs k ≡ Some x → slice_get (xs ++ ys) k ≡ Some x
  slice_get-more [] ys k x at = absurd (none_some x at)
  slice_get-more (z ∷ zs) ys zero x at = at
  slice_get-more (z ∷ zs) ys (suc k) x at = slice_get-more zs ys k x at

  -- where nothing stands, nothing is given
  pub each_from-none : {Y : Type 0} (f : ℕ → X → Y) (i : ℕ) (xs : List X) (k : ℕ) → slice_get xs k ≡ None → slice_get (each_from f i xs) k ≡ None
  each_from-none f i [] k none = refl
  each_from-none f i (x ∷ xs) zero none = cc
  each_from-none f i (x ∷ xs) (suc k) none = each_from-none f (i + 1) xs k none

-- the first symbol is the undefined one, and what earlier batches left is listed
pub record IsSteady (w : Stage) : Type 0 where
  pub first : slice_get w.symbols 0 ≡ Some undefined
  pub listed : NoVersions w → EarlierListed w

-- so it is at the start
steady-start : (w : World) → IsSteady (start_of w)
unfolding EarlierListed
steady-start w = record { first = refl; listed = λ none s t is. absurd (none_some t is) }

-- so it stays where a batch comes
steady-grows : (w : Stage) (b : Batch) → IsSteady w → IsSteady (with_batch w b)
unfolding EarlierListed NoVersions IsListed
steady-grows w b steady = record {
  first = slice_get-more w.symbols _ 0 undefined steady.first;
  listed = λ none s t is.
      let it = steady.listed (λ u y at. none u y (slice_get-more w.symbols _ u y at)) s t is in
      (it.0, record { at = slice_get-more w.symbols _ t it.0 it.1.at; listed = it.1.listed });
}

-- what the references of loaded objects stand for is listed
targets-listed : (w : Stage) (marks : List Bool) → NoVersions w → EarlierListed w → (s t : ℕ) (o : Option Symbol) → slice_get w.symbols s ≡ o
    → target_of (selection_of w marks) s ≡ Some t → IsListed w t
unfolding NoVersions
targets-listed w marks none earlier s t None at is =
    absurd (none_some t (sym (ap (λ o. option_map_or (λ (u : Option ℕ). u) o None) (each_from-none (loaded_target w marks) 0 w.symbols s at)) ∙ is))
targets-listed w marks none earlier s t (Some x) at is = kept-listed w earlier s x t (none s x at) (target_of_is w marks s x t at is)

-- so it stays where the batch ends
steady-stays : (w : Stage) (marks : List Bool) → IsSteady w → IsLoaded w marks → IsSteady (ended (selection_of w marks))
unfolding EarlierListed NoVersions IsListed
steady-stays w marks steady loaded = record {
  first = steady.first;
  listed = λ none s t is.
      let it = targets-listed w marks none (steady.listed none) s t (slice_get w.symbols s) refl is in
      (it.0, record { at = it.1.at; listed = it.1.listed });
}

-- where no symbol has a version, a definition is its own definition
pub definition-over : (w : World) (last : Selection) (s : ℕ) (x : Symbol) → BatchesEnd w (Ok last)
    → ((u : ℕ) (y : Symbol) → slice_get last.stage.symbols u ≡ Some y → y.version ≡ None)
    → slice_get last.stage.symbols s ≡ Some x → definition last (definition last s) ≡ definition last s
unfolding NoVersions
definition-over w last s x ends none at =
    let it = arrives-world IsSteady steady-grows steady-stays w last (steady-start w) ends in
    subst (λ (l : Selection). definition l (definition l s) ≡ definition l s) (sym it.selected)
    (definition-twice last.stage last.marks s x none (it.holds.listed none) it.holds.first at)
