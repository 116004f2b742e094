-- All that the work of a plan names is there, and fits into words.
use Rattle.std.proofs.Common.{◌≡◌, ◌+◌, ◌<◌, ◌≤◌, ◌∙◌, ◌^◌, ℕ, List, [], ◌∷◌, Bool, true, false, Option, Some, None, Contains, IfSome, cond, length, map, inl, inr, refl, sym, ap, subst, arith, slice_get, slice_index, is_some}
use Rattle.std.specs.Prelude.{option_map, option_to_list}
use Rattle.std.proofs.lemmas.Option.{slice_get-map}
use Rattle.link_closure.specs.declared.workload.Item.{Item}
use Rattle.link_closure.specs.declared.workload.Mark.{Mark}
use Rattle.link_closure.specs.Workload.{IsSound}
use Rattle.link_closure.proofs.Joins.{contains_append}
use Rattle.link_claim.specs.Workload.{FitsU32}
use Rattle.link_db_files.specs.GroupFiles.{symbols_in}
use Rattle.link_db_files.specs.Inputs.{objects_in}
use Rattle.link_input_groups.specs.declared.group.Group.{Group}
use Rattle.link_input.specs.Symbols.{Symbol, visibility_in}
use Rattle.link_flags.specs.declared.visibility.Visibility.{Visibility}
use Rattle.link_flags.specs.declared.visibility.Visibility.TheVariants.{Default, Protected, Hidden}
use Rattle.link_rules.specs.Marking.{reference_flags}
use Rattle.link_rules.specs.World.{is_reference}
use Rattle.link_rules.proofs.Members.{at_place, joined_from, map_from}
use Rattle.link_rules.proofs.Settled.{here_or_there, nothing_in, none_some, some_same}
use Rattle.link_db_symbols.specs.Lookups.{target_at}
use Rattle.link_db_symbols.specs.Walk.{SymbolsLeft}
use Rattle.link_resolve_requests.specs.Requests.{request_by}
use Rattle.link_db_files.specs.Sources.{sources_of}
use Rattle.link_db_files.specs.declared.sources.SymbolSource.{SymbolSource}
use Rattle.link_resolve_requests.proofs.Below.{request-below}
use Rattle.link_resolve_extraction.specs.declared.items.WorkItem.{WorkItem}
use Rattle.link_resolve_extraction.specs.Asked.{Known, is_shared_by, mark_by, marks_by, new_target, requests_by}
use Rattle.link_resolve_extraction.specs.Items.{all_items, part_at, parts_of, symbols_of_item}
use Rattle.link_resolve_extraction.specs.Planned.{item_by, planned}

-- an item of objects is one of an object
item-below : (f : ℕ) (os : List SymbolsLeft) (it : WorkItem) → Contains (all_items f os) it → it.object < f + length os
item-below f [] it within = absurd (nothing_in it within)
item-below f (o ∷ os) it within = elim (contains_append it (parts_of f (length o.left)) (all_items (f + 1) os) within) [
  | inl own ↦
      let made = map_from (part_at f) _ it own in
      let same : f ≡ it.object = ap (λ (i : WorkItem). i.object) made.2 in
      omega arith
  | inr deeper ↦ let below = item-below (f + 1) os it deeper in omega arith
]

-- what an option gives
given : {X : Type 0} (o : Option X) (x : X) → Contains (option_to_list o) x → o ≡ Some x
given None x within = absurd (nothing_in x within)
given (Some y) x within = elim (here_or_there y [] x within) [
  | inl is ↦ ap (λ z. Some z) is
  | inr deeper ↦ absurd (nothing_in x deeper)
]

-- a new target is what a reference stands for
new-means : (known : Known) (s : ℕ × Symbol) (t : ℕ) → new_target known s ≡ Some t → known.target s.1 ≡ Some t
new-means known s t is = by (is_some (target_at known.settled s.0)) (is_reference s.1) is
  where
    by : (a b : Bool) → cond a None (cond b (known.target s.1) None) ≡ Some t → known.target s.1 ≡ Some t
    by true b is = absurd (none_some t is)
    by false true is = is
    by false false is = absurd (none_some t is)

-- the mark of an option
mark-from : (sources : List SymbolSource) (x : Symbol) (o : Option ℕ) (m : Mark) → Contains (option_to_list (option_map (mark_by sources x) o)) m
    → (t : ℕ) × (o ≡ Some t) × (mark_by sources x t ≡ m)
mark-from sources x None m within = absurd (nothing_in m within)
mark-from sources x (Some t) m within = elim (here_or_there (mark_by sources x t) [] m within) [
  | inl is ↦ (t, refl, is)
  | inr deeper ↦ absurd (nothing_in m deeper)
]

-- what an item at a place is made of
pub made-item : (known : Known) (objects : List SymbolsLeft) (items : List WorkItem) (i : ℕ) (it : Item) → slice_get (map (item_by known objects) items) i ≡ Some it
    → (z : WorkItem) × (slice_get items i ≡ Some z) × (item_by known objects z ≡ it)
made-item known objects items i it at = by (slice_get items i) refl (sym (slice_get-map (item_by known objects) items i) ∙ at)
  where
    by : (o : Option WorkItem) → slice_get items i ≡ o → option_map (item_by known objects) o ≡ Some it → (z : WorkItem) × (slice_get items i ≡ Some z) × (item_by known objects z ≡ it)
    by None there is = absurd (none_some it is)
    by (Some z) there is = (z, there, some_same (item_by known objects z) it is)

module _ (known : Known) (objects : List SymbolsLeft) (roots : List ℕ) (root_marks : List Mark) (opening : List ℕ) where
  -- a mark of an item is that of a reference on what it stands for
  item-mark : (i : ℕ) (it : Item) (m : Mark) → slice_get (map (item_by known objects) (all_items 0 objects)) i ≡ Some it → Contains it.marks m
      → (s : ℕ × Symbol) × (t : ℕ) × (known.target s.1 ≡ Some t) × (mark_by known.sources s.1 t ≡ m)
  item-mark i it m at within =
      let z = made-item known objects (all_items 0 objects) i it at in
      let of_symbol = joined_from (marks_by known) (symbols_of_item objects z.0) m (subst (λ (j : Item). Contains j.marks m) (sym z.2) within) in
      let mark = mark-from known.sources of_symbol.0.1 (new_target known of_symbol.0) m of_symbol.2 in
      (of_symbol.0, mark.0, new-means known of_symbol.0 mark.0 mark.1, mark.2)

  -- all that the work names is there
  pub plan-sound : {P : Type 0} (groups : List (Group P)) → known.sources ≡ sources_of (symbols_in groups) → length objects ≡ length (objects_in groups)
      → ((f : ℕ) → Contains roots f → f < length objects) → ((m : Mark) → Contains root_marks m → m.symbol < length opening)
      → ((x : Symbol) → IfSome (known.target x) (λ t. t < length opening)) → IsSound (planned known objects (all_items 0 objects) roots root_marks opening)
  plan-sound groups stand count root root_mark means = record {
    roots = root;
    items = λ i it at.
        let z = made-item known objects (all_items 0 objects) i it at in
        let below = item-below 0 objects z.0 (at_place (all_items 0 objects) i z.0 z.1) in
        subst (λ (j : Item). j.file < length objects) z.2 (omega arith);
    requests = λ i f has.
        let z = made-item known objects (all_items 0 objects) i has.0 has.1 in
        let of_symbol = joined_from (requests_by known) (symbols_of_item objects z.0) f (subst (λ (j : Item). Contains j.requests f) (sym z.2) has.2) in
        let asked = given (request_by known.sources of_symbol.0.1 (new_target known of_symbol.0)) f of_symbol.2 in
        let below = request-below groups of_symbol.0.1 (new_target known of_symbol.0) f (ap (λ sources. request_by sources of_symbol.0.1 (new_target known of_symbol.0)) (sym stand) ∙ asked) in
        omega (arith, below, count);
    root_marks = root_mark;
    marks = λ i m has.
        let mark = item-mark i has.0 m has.1 has.2 in
        subst (λ (n : Mark). n.symbol < length opening) mark.3 (subst (λ o. IfSome o (λ t. t < length opening)) mark.2 (means mark.0.1));
  }

  -- what a reference gives fits
  flags-fit : (x : Symbol) (shared : Bool) → reference_flags x shared < 2 ^ 32
  flags-fit x shared = by (visibility_in x.origin) shared refl
    where
      by : (v : Visibility) (b : Bool) → visibility_in x.origin ≡ v → reference_flags x b < 2 ^ 32
      by Default true is = rw is (omega arith)
      by Default false is = rw is (omega arith)
      by Protected true is = rw is (omega arith)
      by Protected false is = rw is (omega arith)
      by Hidden true is = rw is (omega arith)
      by Hidden false is = rw is (omega arith)

  -- all of it fits into words
  pub plan-fits : length opening ≤ 2 ^ 32 → ((x : ℕ) → x < length opening → slice_index opening x < 2 ^ 32) → ((m : Mark) → Contains root_marks m → m.bits < 2 ^ 32)
      → FitsU32 (planned known objects (all_items 0 objects) roots root_marks opening)
  plan-fits few opens root_mark = record {
    symbols = few;
    opening = opens;
    root_marks = root_mark;
    marks = λ i m has.
        let mark = item-mark i has.0 m has.1 has.2 in
        subst (λ (n : Mark). n.bits < 2 ^ 32) mark.3 (flags-fit mark.0.1 (is_shared_by known.sources mark.1));
  }
