-- What threads leave of the items of a plan.
use Rattle.std.proofs.Common.{◌≡◌, ◌<◌, ◌∙◌, ◌++◌, ℕ, Bool, true, false, List, [], Option, Some, None, Contains, MatchBool, length, map, refl, sym, ap, append-nil, subst, arith, slice_get}
use Rattle.std.specs.Prelude.{option_map}
use Rattle.std.proofs.lemmas.List.{length-map}
use Rattle.std.proofs.lemmas.Option.{slice_get-get_or, slice_get-map, slice_get_within}
use Rattle.link_closure.specs.Closure.{is_marked}
use Rattle.link_closure.specs.Workload.{IsSound}
use Rattle.link_closure.specs.declared.workload.Item.{Item}
use Rattle.link_closure.specs.declared.workload.Mark.{Mark}
use Rattle.link_claim.specs.Seats.{Ending, claimed_in}
use Rattle.link_db.specs.Database.{Database, symbol_names}
use Rattle.link_db_files.specs.GroupFiles.{symbols_in}
use Rattle.link_input.specs.Symbols.{Symbol}
use Rattle.link_claim_pool.specs.Results.{AreResultsOf}
use Rattle.link_rules.proofs.Members.{map_in}
use Rattle.link_rules.proofs.Settled.{none_some, some_same}
use Rattle.link_db_symbols.specs.Walk.{SymbolsLeft}
use Rattle.link_resolve_extraction.specs.declared.found.FoundItem.{FoundItem}
use Rattle.link_resolve_extraction.specs.declared.found.FoundReference.{FoundReference}
use Rattle.link_resolve_extraction.specs.declared.items.WorkItem.{WorkItem}
use Rattle.link_resolve_extraction.specs.Answer.{AreItemsRead, IsReferenceIn}
use Rattle.link_resolve_extraction.specs.Asked.{IsFoundIn, Known, found_mark}
use Rattle.link_resolve_extraction.specs.Items.{all_items, symbols_of_item}
use Rattle.link_resolve_extraction.specs.Planned.{item_by, planned}
use Rattle.link_resolve_extraction.proofs.Told.{told-marks}

-- what follows in one case
match-each : {A C : Type 0} (B : Type 0) (b : Bool) → MatchBool b A B → (A → C) → MatchBool b C B
match-each B true a each = each a
match-each B false b each = b

module _ (known : Known) (objects : List SymbolsLeft) (items : List WorkItem) (roots : List ℕ) (root_marks : List Mark) (opening : List ℕ) (e : Ending) (found : List (Option FoundItem))
    (cut : items ≡ all_items 0 objects)
    (are : AreResultsOf (planned known objects items roots root_marks opening) (λ i x. (z : WorkItem) → slice_get items i ≡ Some z → IsFoundIn known (symbols_of_item objects z) x) e found) where
  -- of each item of a claimed object something was found, and of no other
  pub items-read : AreItemsRead known objects (claimed_in e) found
  items-read = record {
    count = are.0 ∙ (length-map items (item_by known objects) ∙ ap (λ (l : List WorkItem). length l) cut);
    each = λ i z at.
        let there : slice_get items i ≡ Some z = ap (λ (l : List WorkItem). slice_get l i) cut ∙ at in
        match-each (slice_get found i ≡ Some None) (is_marked (claimed_in e) z.object) (are.1 i (item_by known objects z) (slice_get-map (item_by known objects) items i ∙ ap (option_map (item_by known objects)) there))
        (λ x. (x.0, x.1, x.2 z there));
  }

  -- what a reference that was found stands for is a symbol, if all that the work names is there
  pub found-below : IsSound (planned known objects items roots root_marks opening) → (r : FoundReference) → IsReferenceIn found r → r.target < length opening
  found-below sound r (i, x, at, within) =
      let below : i < length found = slice_get_within found i (Some x) at in
      by_item (slice_get (map (item_by known objects) items) i) refl (omega (arith, below, are.0))
    where
      by_claim : (it : Item) → slice_get (map (item_by known objects) items) i ≡ Some it → (b : Bool)
          → MatchBool b ((y : FoundItem) × (slice_get found i ≡ Some (Some y)) × ((z : WorkItem) → slice_get items i ≡ Some z → IsFoundIn known (symbols_of_item objects z) y)) (slice_get found i ≡ Some None)
          → r.target < length opening
      by_claim it there true has =
          let same : has.0 ≡ x = some_same has.0 x (some_same (Some has.0) (Some x) (sym has.1 ∙ at)) in
          let marks = told-marks known objects items i it has.0.references.items (λ z is. (has.2 z is).marks) there in
          sound.marks i (found_mark r) (
            it,
            there,
            subst (λ (ms : List Mark). Contains ms (found_mark r)) marks
                (map_in found_mark has.0.references.items r (subst (λ (y : FoundItem). Contains y.references.items r) (sym same) within)),
          )
      by_claim it there false none = absurd (none_some x (some_same None (Some x) (sym none ∙ at)))

      by_item : (o : Option Item) → slice_get (map (item_by known objects) items) i ≡ o → i < length (map (item_by known objects) items) → r.target < length opening
      by_item None none below = absurd (none_some _ (sym none ∙ slice_get-get_or (map (item_by known objects) items) i (record { file = 0; requests = []; marks = [] }) below))
      by_item (Some it) there below = by_claim it there (is_marked (claimed_in e) it.file) (are.1 i it there)

-- without symbols of the linker's own there are as many names as symbols of files
pub named-all : {P : Type 0} (db : Database P) → db.mapping.files.added ≡ [] → length (symbol_names db) ≡ length (symbols_in db.mapping.files.groups)
named-all db none =
    ap (λ (added : List (List ℕ)). length (map (λ (x : Symbol). x.name) (symbols_in db.mapping.files.groups) ++ added)) none
    ∙ (ap (λ (l : List (List ℕ)). length l) (append-nil (map (λ (x : Symbol). x.name) (symbols_in db.mapping.files.groups))) ∙ length-map (symbols_in db.mapping.files.groups) (λ (x : Symbol). x.name))
