-- What follows once the items of a link were read: the flags of symbols, and what references stand for.
use Rattle.std.specs.Prelude.{◌≡◌, ◌⊎◌, ℕ, ◌+◌, ◌<◌, Bool, List, [], ◌∷◌, Contains, MatchBool, Option, Some, None, if◌then◌else◌, length, nat_lt, slice_get, slice_set}
use Rattle.std.specs.List.{flat_map}
use Rattle.std.specs.Option.{option_map_or}
use Rattle.link_claim.specs.Seats.{Ending, flags_in}
use Rattle.link_closure.specs.Closure.{is_marked}
use Rattle.link_input.specs.Symbols.{Symbol}
use Rattle.link_db_files.specs.Sources.{sources_of}
use Rattle.link_rules.specs.Places.{each_from}
use Rattle.link_rules.specs.Targets.{target}
use Rattle.link_rules.specs.Work.{symbols_with_ids}
use Rattle.link_rules.specs.World.{Stage}
use Rattle.link_db_symbols.specs.Lookups.{target_at}
use Rattle.link_db_symbols.specs.Walk.{SymbolsLeft, with_ids}
use Rattle.link_resolve_extraction.specs.declared.found.FoundItem.{FoundItem}
use Rattle.link_resolve_extraction.specs.declared.found.FoundReference.{FoundReference}
use Rattle.link_resolve_extraction.specs.declared.items.WorkItem.{WorkItem}
use Rattle.link_resolve_extraction.specs.Asked.{IsFoundIn, Known}
use Rattle.link_resolve_extraction.specs.Items.{all_items, symbols_of_item}

-- the closed flags of the symbol of this id, if the words know it, else those that it had
abbrev pub closed_flags : Ending → ℕ → ℕ → ℕ
closed_flags e s old = if nat_lt s (length e.view.work.opening) then flags_in e s else old

-- the flags of symbols with the closed ones written over them
abbrev pub with_closed_flags : Ending → List ℕ → List ℕ
with_closed_flags e flags = each_from (closed_flags e) 0 flags

-- the references that were found in an item
abbrev pub references_of : Option FoundItem → List FoundReference
references_of found = option_map_or (λ x. x.references.items) found []

-- those of all items, in their order
abbrev pub references_in : List (Option FoundItem) → List FoundReference
references_in found = flat_map references_of found

-- the reference was found in some item
abbrev pub IsReferenceIn : List (Option FoundItem) → FoundReference → Type 0
IsReferenceIn found r = (i : ℕ) × (x : FoundItem) × (slice_get found i ≡ Some (Some x)) × Contains x.references.items r

-- each reference that was found stands for one of the first n symbols
abbrev pub AreFoundBelow : ℕ → List (Option FoundItem) → Type 0
AreFoundBelow n found = (r : FoundReference) → IsReferenceIn found r → r.target < n

-- how many requests were found in an item
abbrev pub request_count : Option FoundItem → ℕ
request_count found = option_map_or (λ x. x.requests) found 0

-- in all of these items
abbrev pub requests_found : List (Option FoundItem) → ℕ
requests_found [] = 0
requests_found (o ∷ os) = request_count o + requests_found os

-- the targets of symbols after those of references were written, one after another
abbrev pub with_references : List (Option ℕ) → List FoundReference → List (Option ℕ)
with_references targets [] = targets
with_references targets (r ∷ rs) = with_references (slice_set targets r.reference (Some r.target)) rs

-- a target for each of so many symbols: what earlier batches settled, or that of a reference that was found; and where what is found is
-- told by the symbol alone, that of each reference that was found
pub record AreTargetsRead (symbols : ℕ) (settled : List (Option ℕ)) (found : List (Option FoundItem)) (targets : List (Option ℕ)) : Type 0 where
  pub len : length targets ≡ symbols
  pub kept : (s : ℕ) (o : Option ℕ) → slice_get targets s ≡ Some o
      → (o ≡ target_at settled s) ⊎ ((r : FoundReference) × IsReferenceIn found r × (r.reference ≡ s) × (o ≡ Some r.target))
  pub written : (means : ℕ → Option ℕ) → ((r : FoundReference) → IsReferenceIn found r → means r.reference ≡ Some r.target)
      → (r : FoundReference) → IsReferenceIn found r → r.reference < symbols → slice_get targets r.reference ≡ Some (Some r.target)

-- what is known at the stage: where its symbols stand, what its earlier batches settled, and what its names mean
pub record IsKnownAt (w : Stage) (known : Known) : Type 0 where
  pub sources : known.sources ≡ sources_of w.symbols
  pub settled : known.settled ≡ w.earlier.targets
  pub target : (x : Symbol) → known.target x ≡ target w x

-- the stage's objects, each with its symbols
pub record AreObjectsOf (w : Stage) (objects : List SymbolsLeft) : Type 0 where
  pub count : length objects ≡ length w.objects
  pub symbols : (f : ℕ) (o : SymbolsLeft) → slice_get objects f ≡ Some o → with_ids o ≡ symbols_with_ids w f

-- for each item of a marked object what is found in it, and nothing for any other
pub record AreItemsRead (known : Known) (objects : List SymbolsLeft) (marks : List Bool) (found : List (Option FoundItem)) : Type 0 where
  pub count : length found ≡ length (all_items 0 objects)
  pub each : (i : ℕ) (it : WorkItem) → slice_get (all_items 0 objects) i ≡ Some it → MatchBool (is_marked marks it.object)
      ((x : FoundItem) × (slice_get found i ≡ Some (Some x)) × IsFoundIn known (symbols_of_item objects it) x)
      (slice_get found i ≡ Some None)
