-- What undefined references and new symbols point to at the end.
use Rattle.std.proofs.Common.{◌≡◌, ◌+◌, ◌∙◌, ◌++◌, ◌&&◌, ◌||◌, ℕ, List, [], ◌∷◌, Bool, true, false, not, if◌then◌else◌, is_some, length, map, slice_index, unwrap_or, refl, ap}
use Rattle.std.specs.Option.{option_or}
use Rattle.link_input.specs.Symbols.{Symbol}
use Rattle.link_rules.specs.Places.{each_from, is_number}
use Rattle.link_rules.specs.Rivals.{versioned_entry, plain_table, versioned_table}
use Rattle.link_rules.specs.Selection.{Selection}
use Rattle.link_rules.specs.Undefined.{Numbered, boundary_makers, final_entry, last_alike, left_undefined, stays_undefined}
use Rattle.link_resolve_undefined.specs.declared.asked_names.AskedNames.{AskedNames}
use Rattle.link_resolve_undefined.specs.Asked.{first_new_in, makers_in}
use Rattle.link_resolve_undefined.specs.Edited.{edited}
use Rattle.link_resolve_undefined.specs.Pointed.{AreLeftOf, pointed}
use Rattle.link_resolve_undefined.specs.Records.{numbered_at}
use Rattle.link_resolve_undefined.proofs.Editing.{changed, edited-all, length-each}

-- the places alone
places-alone : (i : ℕ) (us : List Numbered) → each_from (λ (s m : ℕ). s) i (map (λ (u : Numbered). u.0) us) ≡ each_from (λ (s : ℕ) (u : Numbered). s) i us
places-alone i [] = refl
places-alone i (u ∷ us) = ap (λ (l : List ℕ). i ∷ l) (places-alone (i + 1) us)

either : (stays keeps : Bool) (old new : ℕ) → (if stays then (if keeps then old else new) else old) ≡ (if not stays || keeps then old else new)
either true keeps old new = refl
either false keeps old new = refl

module _ (symbols : List Symbol) (left : List ℕ) (asked : AskedNames) (l : Selection) (are : AreLeftOf symbols left asked l) where
  entry-is : (s : ℕ) (x : Symbol) → changed (pointed asked) (stays_undefined l) (versioned_table l) s x ≡ final_entry l (left_undefined l) (versioned_table l) s x
  entry-is s x =
      (λ j. if stays_undefined l (s, x) then (if is_some x.version && is_number (are.asked_are.last x j) s then slice_index (versioned_table l) s
      else unwrap_or (option_or (are.asked_are.made x j) (are.asked_are.last x j)) s) else slice_index (versioned_table l) s)
      ∙ either (stays_undefined l (s, x)) (is_some x.version && is_number (last_alike (left_undefined l) x) s) (slice_index (versioned_table l) s) _

  -- references point to what stands for their names
  pub pointed-all : (more table : List ℕ) → table ≡ versioned_table l ++ more
      → edited (pointed asked) (numbered_at symbols left) table ≡ each_from (final_entry l (left_undefined l) (versioned_table l)) 0 l.stage.symbols ++ more
  pointed-all more table is =
      (λ j. edited (pointed asked) (are.records_are j) (is j))
      ∙ (edited-all (pointed asked) (stays_undefined l) (versioned_table l) l.stage.symbols more (length-each (versioned_entry l (plain_table l)) 0 l.stage.symbols)
      ∙ (λ j. each_from (λ s x. entry-is s x j) 0 l.stage.symbols ++ more))

  -- behind them each new symbol points to itself
  pub new-ids : each_from (λ (s m : ℕ). s) (first_new_in asked) (makers_in asked) ≡ each_from (λ (s : ℕ) (u : Numbered). s) (length l.stage.symbols) (boundary_makers l.stage (left_undefined l))
  new-ids =
      (λ j. each_from (λ (s m : ℕ). s) (are.asked_are.first_new j) (are.asked_are.makers j))
      ∙ places-alone (length l.stage.symbols) (boundary_makers l.stage (left_undefined l))
