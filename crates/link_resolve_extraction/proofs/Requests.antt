-- How many requests were found in the items of marked objects.
use Rattle.std.proofs.Common.{◌≡◌, ◌∙◌, ◌+◌, ◌<◌, ℕ, drop, get_or, suc, Bool, true, false, cond, List, [], ◌∷◌, Option, Some, None, MatchBool, length, map, refl, sym, ap, arith, slice_get}
use Rattle.std.proofs.lemmas.List.{at_drop_more}
use Rattle.link_closure.specs.Closure.{is_marked}
use Rattle.link_resolve_extraction.specs.Requests.{requests_in}
use Rattle.link_rules.proofs.Settled.{some_same}
use Rattle.link_db_symbols.specs.Walk.{SymbolsLeft}
use Rattle.link_resolve_extraction.specs.declared.found.FoundItem.{FoundItem}
use Rattle.link_resolve_extraction.specs.declared.items.WorkItem.{WorkItem}
use Rattle.link_resolve_extraction.specs.Answer.{AreItemsRead, request_count, requests_found}
use Rattle.link_resolve_extraction.specs.Asked.{IsFoundIn, Known}
use Rattle.link_resolve_extraction.specs.Items.{all_items, symbols_of_item}
use Rattle.link_resolve_extraction.specs.Planned.{item_by}

-- with those of one item more as many are left
pub count-next : (count new : ℕ) (found : List (Option FoundItem)) (i : ℕ) (x : Option FoundItem) → i < length found → x ≡ get_or found i x
    → new ≡ count + request_count x → new + requests_found (drop (i + 1) found) ≡ count + requests_found (drop i found)
count-next count new found i x lt is new_is =
    let all : requests_found (drop i found) ≡ request_count x + requests_found (drop (i + 1) found) =
    at_drop_more requests_found found i x lt ∙ ap (λ o. request_count o + requests_found (drop (i + 1) found)) (sym is) in
    omega (arith, all, new_is)

module _ (known : Known) (objects : List SymbolsLeft) (marks : List Bool) where
  -- as many were found in an item as it lists, if its object is marked, and else none
  counted-one : (it : WorkItem) (o : Option FoundItem) (b : Bool)
      → MatchBool b ((x : FoundItem) × (Some o ≡ Some (Some x)) × IsFoundIn known (symbols_of_item objects it) x) (Some o ≡ Some None)
      → request_count o ≡ cond b (length (item_by known objects it).requests) 0
  counted-one it o true has = ap request_count (some_same o (Some has.0) has.1) ∙ has.2.requests
  counted-one it o false none = ap request_count (some_same o None none)

  -- so it is of all items
  counted-all : (items : List WorkItem) (found : List (Option FoundItem)) → length found ≡ length items
      → ((i : ℕ) (it : WorkItem) → slice_get items i ≡ Some it → MatchBool (is_marked marks it.object)
      ((x : FoundItem) × (slice_get found i ≡ Some (Some x)) × IsFoundIn known (symbols_of_item objects it) x)
      (slice_get found i ≡ Some None))
      → requests_found found ≡ requests_in marks (map (item_by known objects) items)
  counted-all [] [] len each = refl
  counted-all [] (o ∷ os) len each = absurd (omega arith)
  counted-all (it ∷ items) [] len each = absurd (omega arith)
  counted-all (it ∷ items) (o ∷ os) len each =
      ap (λ n. n + requests_found os) (counted-one it o (is_marked marks it.object) (each 0 it refl))
      ∙ ap (λ n. cond (is_marked marks it.object) (length (item_by known objects it).requests) 0 + n) (counted-all items os (omega arith) (λ i z at. each (suc i) z at))

  -- as many were found as the items of marked objects list
  pub requests-are : (items : List WorkItem) (found : List (Option FoundItem)) → items ≡ all_items 0 objects → AreItemsRead known objects marks found
      → requests_found found ≡ requests_in marks (map (item_by known objects) items)
  requests-are items found cut read =
      counted-all (all_items 0 objects) found read.count read.each
      ∙ ap (λ (its : List WorkItem). requests_in marks (map (item_by known objects) its)) (sym cut)
