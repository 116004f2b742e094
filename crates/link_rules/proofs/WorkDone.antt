-- What the work of a batch names is there; and the flags that its items leave are those of the link.
use Rattle.std.proofs.Common.{◌≡◌, ℕ, suc, ◌+◌, ◌<◌, List, [], ◌∷◌, Bool, true, false, length, cond, refl, sym, ◌∙◌, ap, subst, inl, inr, ◌⊎◌, arith, Some, None, Option, Contains, slice_get, slice_index, is_some}
use Rattle.std.specs.Prelude.{◌&&◌, ◌++◌, option_and_then, option_to_list, zip}
use Rattle.std.specs.Int.RustNames.{bit_or}
use Rattle.std.specs.Option.{option_map_or, option_or}
use Rattle.std.specs.List.{cons_option, filter_map, flat_map}
use Rattle.std.proofs.lemmas.Option.{slice_get_within, gets}
use Rattle.std.proofs.lemmas.Grind.{common_steps}
use Rattle.link_closure.specs.Closure.{is_marked}
use Rattle.link_closure.specs.declared.workload.Item.{Item}
use Rattle.link_closure.specs.declared.workload.Mark.{Mark}
use Rattle.link_closure.specs.Workload as work
use Rattle.link_closure.specs.Workload.{IsWithin, bits_for, item_bits}
use Rattle.link_closure.proofs.Joins.{within_trans, within_left, within_right, within_both, within_same, bits_has, bits_within, item_has, item_within, contains_append, contains_left}
use Rattle.link_flags.specs.FlagBits as flag
use Rattle.link_input.specs.Symbols.{Symbol, object_in, is_shared}
use Rattle.link_rules.specs.Places.{Bytes, each_from}
use Rattle.link_rules.specs.World.{Stage, is_reference, is_shared_at, object_of}
use Rattle.link_rules.specs.Names.{first_definition}
use Rattle.link_rules.specs.Targets.{earlier_target, target, kept_target}
use Rattle.link_rules.specs.Loading.{IsLoaded, entry_name, redirect_targets, is_root, request_of, request_between, is_origin_loaded}
use Rattle.link_rules.specs.Marking.{reference_flags, reference_marks, named_symbols, named_marks, all_marks, marked_flags, marked_symbol, flags_before}
use Rattle.link_rules.specs.Selection.{selection_of, loaded_target}
use Rattle.link_rules.specs.Work.{new_requests, new_marks, object_items, object_places, workload_of}
use Rattle.link_rules.proofs.Settled.{here, here_or_there, nothing_in, none_some, some_same, filtered, slice_index-each_from}
use Rattle.link_rules.proofs.Members.{at_place, map_from, joined_from, zipped_from, range_from}
use Rattle.link_rules.proofs.Ranges.{HasSymbol, first_definition-symbol, target-symbol}
use Rattle.link_rules.specs.Orderly.{IsDone, IsOrderly}
use Rattle.link_rules.proofs.Stages.{IsTargetOf, loaded_target-is, mark_in}
use Rattle.link_rules.proofs.WorkItems.{IsItemOf, item_from, item_in, held_from, object_below, requests_from}

-- ---- marks

-- the mark that a reference makes on its target
abbrev pub made : Stage → Symbol → ℕ → Mark
made w u t = record { symbol = t; bits = reference_flags u (is_shared_at w t) }

-- a mark of a reference is the one on its target
pub mark_of : (w : Stage) (u : Symbol) (o : Option ℕ) (m : Mark) → Contains (reference_marks w u o) m → (t : ℕ) × (o ≡ Some t) × (made w u t ≡ m)
mark_of w u None m within = absurd (nothing_in m within)
mark_of w u (Some t) m within = elim (here_or_there (made w u t) [] m within) [
  | inl is ↦ (t, refl, is)
  | inr deeper ↦ absurd (nothing_in m deeper)
]

-- what a symbol marks anew: it is a reference for which nothing was settled, and marks its target
pub record IsNewMark (w : Stage) (s : ℕ) (u : Symbol) (m : Mark) : Type 0 where
  pub anew : earlier_target w s ≡ None
  pub reference : is_reference u ≡ true
  pub target_id : ℕ
  pub is_target : target w u ≡ Some target_id
  pub is : made w u target_id ≡ m

-- by the two tests
new_mark_by : (w : Stage) (s : ℕ) (u : Symbol) (m : Mark) (o : Option ℕ) (b : Bool) → earlier_target w s ≡ o → is_reference u ≡ b
    → Contains (cond (is_some o) [] (cond b (reference_marks w u (target w u)) [])) m → IsNewMark w s u m
new_mark_by w s u m (Some t) b settled is within = absurd (nothing_in m within)
new_mark_by w s u m None false settled is within = absurd (nothing_in m within)
new_mark_by w s u m None true settled is within =
    let it = mark_of w u (target w u) m within in
    record { anew = settled; reference = is; target_id = it.0; is_target = it.1; is = it.2 }

-- each new mark is such a one
pub new_mark_from : (w : Stage) (s : ℕ) (u : Symbol) (m : Mark) → Contains (new_marks w (s, u)) m → IsNewMark w s u m
new_mark_from w s u m within = new_mark_by w s u m (earlier_target w s) (is_reference u) refl refl within

-- a reference for which nothing was settled marks its target anew
pub new_mark_in : (w : Stage) (s : ℕ) (u : Symbol) (m : Mark) → earlier_target w s ≡ None → is_reference u ≡ true
    → Contains (reference_marks w u (target w u)) m → Contains (new_marks w (s, u)) m
new_mark_in w s u m none is within =
    subst (λ (o : Option ℕ). Contains (cond (is_some o) [] (cond (is_reference u) (reference_marks w u (target w u)) [])) m) (sym none)
    (subst (λ b. Contains (cond b (reference_marks w u (target w u)) []) m) (sym is) within)

-- a mark of an item is a new one of a symbol of its object
pub record IsMarkOf (w : Stage) (f : ℕ) (m : Mark) : Type 0 where
  pub id : ℕ
  pub source : Symbol
  pub at : slice_get w.symbols id ≡ Some source
  pub in_it : object_in source.origin ≡ Some f
  pub new : IsNewMark w id source m

-- each is
pub item_mark : (w : Stage) (i : ℕ) (it : Item) (m : Mark) → slice_get (flat_map (object_items w) (object_places w)) i ≡ Some it
    → Contains it.marks m → IsMarkOf w it.file m
item_mark w i it m at within =
    let of_object = item_from w it (at_place (flat_map (object_items w) (object_places w)) i it at) in
    let item = of_object.2 in
    let of_symbol = joined_from (new_marks w) of_object.1 m (subst (λ (j : Item). Contains j.marks m) item.is within) in
    let held = held_from w of_object.0 of_symbol.0 (item.each of_symbol.0 of_symbol.1) in
    record {
      id = of_symbol.0.0;
      source = of_symbol.0.1;
      at = held.0;
      in_it = held.1 ∙ ap (λ (j : Item). Some j.file) (sym item.is);
      new = new_mark_from w of_symbol.0.0 of_symbol.0.1 m of_symbol.2;
    }

-- ---- all that is named is there

-- what a filter with a function gives comes from an element, by whether the head gives something
given_by : (f : Bytes → Option ℕ) (x : Bytes) (rest : List ℕ) (t : ℕ) (o : Option ℕ) → f x ≡ o → (Contains rest t → (y : Bytes) × (f y ≡ Some t))
    → Contains (cons_option o rest) t → (y : Bytes) × (f y ≡ Some t)
given_by f x rest t None is further within = further within
given_by f x rest t (Some n) is further within = elim (here_or_there n rest t within) [
  | inl same ↦ (x, is ∙ ap (λ k. Some k) same)
  | inr deeper ↦ further deeper
]

-- what a filter with a function gives comes from an element
given_from : (f : Bytes → Option ℕ) (xs : List Bytes) (t : ℕ) → Contains (filter_map f xs) t → (x : Bytes) × (f x ≡ Some t)
given_from f [] t within = absurd (nothing_in t within)
given_from f (x ∷ xs) t within = given_by f x (filter_map f xs) t (f x) refl (given_from f xs t) within

-- there are as many opening flags as symbols
length-each_from : {X Y : Type 0} (f : ℕ → X → Y) (i : ℕ) (xs : List X) → length (each_from f i xs) ≡ length xs
length-each_from f i [] = refl
length-each_from f i (x ∷ xs) = ap (λ n. suc n) (length-each_from f (i + 1) xs)

-- a symbol that is there has opening flags
opens : (w : Stage) (t : ℕ) → HasSymbol w t → t < length (each_from (flags_before w) 0 w.symbols)
opens w t has = omega (arith, length-each_from (flags_before w) 0 w.symbols, slice_get_within w.symbols t has.symbol has.at)

-- the mark of a name
abbrev named_mark : ℕ → Mark
named_mark t = record { symbol = t; bits = flag.has_non_ir_ref }

-- a root mark is on what a name is mapped to
root_mark : (w : Stage) (m : Mark) → Contains (named_marks w) m → HasSymbol w m.symbol
root_mark w m within =
    let it = map_from named_mark (named_symbols w) m within in
    let named = given_from (first_definition w) (option_to_list (entry_name w) ++ redirect_targets w) it.0 it.1 in
    subst (HasSymbol w) (ap (λ (n : Mark). n.symbol) it.2) (first_definition-symbol w named.0 it.0 named.1)

-- what a reference asks for is an object
asked_below : (w : Stage) → IsOrderly w → (s : ℕ) (u : Symbol) (g : ℕ) → request_of w s u ≡ Some g → g < length w.objects
asked_below w orderly s u g is = by_target (kept_target w s u) (chosen _ _ is)
  where
    chosen : (b : Bool) (o : Option ℕ) → cond b o None ≡ Some g → o ≡ Some g
    chosen true o same = same
    chosen false o same = absurd (none_some g same)

    between : (b : Bool) (t : ℕ) → cond b None (object_of w t) ≡ Some g → object_of w t ≡ Some g
    between true t same = absurd (none_some g same)
    between false t same = same

    by_target : (o : Option ℕ) → option_and_then (request_between w u) o ≡ Some g → g < length w.objects
    by_target None same = absurd (none_some g same)
    by_target (Some t) same = object_below w orderly t g (between _ t same)

-- all that the work names is there
pub work-sound : (w : Stage) → IsOrderly w → work.IsSound (workload_of w)
work-sound w orderly = record {
  roots = λ f root. range_from (length w.objects) f (filtered (is_root w) (object_places w) f root);
  items = λ i it at. file_below it (item_from w it (at_place (flat_map (object_items w) (object_places w)) i it at));
  requests = λ i f has. request_below f (item_from w has.0 (at_place (flat_map (object_items w) (object_places w)) i has.0 has.1)) has.2;
  root_marks = λ m has. opens w m.symbol (root_mark w m has);
  marks = λ i m has. mark_opens (item_mark w i has.0 m has.1 has.2);
}
  where
    file_below : (it : Item) → (f : ℕ) × (part : List (ℕ × Symbol)) × IsItemOf w it f part → it.file < length w.objects
    file_below it (f, part, item) = subst (λ (j : Item). j.file < length w.objects) (sym item.is) item.below

    request_below : {it : Item} (g : ℕ) → (f : ℕ) × (part : List (ℕ × Symbol)) × IsItemOf w it f part → Contains it.requests g → g < length w.objects
    request_below g (f, part, item) within =
        let of_symbol = joined_from (new_requests w) part g (subst (λ (j : Item). Contains j.requests g) item.is within) in
        asked_below w orderly of_symbol.0.0 of_symbol.0.1 g (requests_from w of_symbol.0.0 of_symbol.0.1 g of_symbol.2)

    mark_opens : {f : ℕ} {m : Mark} → IsMarkOf w f m → m.symbol < length (each_from (flags_before w) 0 w.symbols)
    mark_opens {f} {m} mark =
        subst (λ (n : Mark). n.symbol < length (each_from (flags_before w) 0 w.symbols)) mark.new.is
        (opens w mark.new.target_id (target-symbol w mark.source mark.new.target_id mark.new.is_target))

-- ---- the flags that it leaves

-- where nothing was settled the kept target is the one by its name
kept_anew : (w : Stage) (s : ℕ) (u : Symbol) → earlier_target w s ≡ None → kept_target w s u ≡ target w u
kept_anew w s u none = ap (λ o. option_or o (target w u)) none

-- a loaded reference has its kept target
loaded_target_of : (w : Stage) (marks : List Bool) (s : ℕ) (u : Symbol) (f : ℕ) → is_reference u ≡ true → object_in u.origin ≡ Some f → is_marked marks f ≡ true
    → loaded_target w marks s u ≡ kept_target w s u
loaded_target_of w marks s u f is in_it loaded =
    ap (λ b. cond (b && is_origin_loaded marks u.origin) (kept_target w s u) None) is
    ∙ ap (λ b. cond b (kept_target w s u) None) (ap (λ o. option_map_or (is_marked marks) o true) in_it ∙ loaded)

-- a mark of an item of a loaded object is one of all marks
item_mark_in : (w : Stage) (marks : List Bool) (f : ℕ) (m : Mark) → is_marked marks f ≡ true → IsMarkOf w f m → Contains (all_marks (selection_of w marks)) m
item_mark_in w marks f m loaded mark =
    let t : ℕ = mark.new.target_id in
    let has = loaded_target_of w marks mark.id mark.source f mark.new.reference mark.in_it loaded ∙ kept_anew w mark.id mark.source mark.new.anew ∙ mark.new.is_target in
    mark_in w marks mark.id mark.source t m mark.at has
    (subst (λ n. Contains (reference_marks w mark.source (Some t)) n) mark.new.is (here (made w mark.source t) []))

-- the flags of a symbol after the marks of its link
abbrev linked_flags : Stage → List Bool → ℕ → Symbol → ℕ
linked_flags w marks s x = marked_symbol w (all_marks (selection_of w marks)) s x

-- the flags that the work leaves
abbrev worked_flags : Stage → List Bool → ℕ → ℕ
worked_flags w marks s = work.marked (workload_of w) (is_marked marks) s

-- what a symbol opens with
opening_is : (w : Stage) (s : ℕ) (x : Symbol) → slice_get w.symbols s ≡ Some x → slice_index (each_from (flags_before w) 0 w.symbols) s ≡ flags_before w s x
opening_is w s x at =
    let zero_add : 0 + s ≡ s = omega arith in
    slice_index-each_from (flags_before w) 0 w.symbols s x at ∙ ap (λ n. flags_before w n x) zero_add

-- the flags that the work leaves are within those of the link
work_within : (w : Stage) (marks : List Bool) (s : ℕ) (x : Symbol) → slice_get w.symbols s ≡ Some x → IsWithin (worked_flags w marks s) (linked_flags w marks s x)
work_within w marks s x at = within_both (within_both opening named) items
  where
    all : List Mark
    all = all_marks (selection_of w marks)

    of_marks : IsWithin (bits_for s all) (linked_flags w marks s x)
    of_marks = within_right (flags_before w s x) (bits_for s all)

    opening : IsWithin (slice_index (each_from (flags_before w) 0 w.symbols) s) (linked_flags w marks s x)
    opening = subst (λ n. IsWithin n (linked_flags w marks s x)) (sym (opening_is w s x at)) (within_left (flags_before w s x) (bits_for s all))

    named : IsWithin (bits_for s (named_marks w)) (linked_flags w marks s x)
    named = bits_within s (named_marks w) _ (λ m has is. within_trans (bits_has s all m (contains_left m (named_marks w) _ has) is) of_marks)

    items : IsWithin (item_bits (is_marked marks) s (flat_map (object_items w) (object_places w))) (linked_flags w marks s x)
    items = item_within (is_marked marks) s (flat_map (object_items w) (object_places w)) _ (λ i it stands loaded.
        bits_within s it.marks _ (λ m has is.
        within_trans (bits_has s all m (item_mark_in w marks it.file m loaded (item_mark w i it m stands has)) is) of_marks))

-- the mark of a loaded reference is within the flags that the work leaves, by whether an earlier batch settled it
mark_within_by : (w : Stage) (marks : List Bool) (s : ℕ) (x : Symbol) → IsOrderly w → slice_get w.symbols s ≡ Some x
    → (i : ℕ) (u : Symbol) (o : Option ℕ) → earlier_target w i ≡ o → slice_get w.symbols i ≡ Some u → IsTargetOf w marks i u s
    → IsWithin (reference_flags u (is_shared_at w s)) (worked_flags w marks s)
mark_within_by w marks s x orderly at i u None settled stands it =
    let is_target : target w u ≡ Some s = sym (kept_anew w i u settled) ∙ it.kept in
    let item = item_in w orderly it.object i u stands it.in_it in
    let mark = new_mark_in w i u (made w u s) settled it.reference (subst (λ o. Contains (reference_marks w u o) (made w u s)) (sym is_target) (here (made w u s) [])) in
    within_trans (bits_has s item.item.marks (made w u s) (item.marks (made w u s) mark) refl)
    (within_trans (item_has (is_marked marks) s (flat_map (object_items w) (object_places w)) item.place item.item item.at (ap (is_marked marks) item.file ∙ it.loaded))
    (within_right (bit_or (slice_index (each_from (flags_before w) 0 w.symbols) s) (bits_for s (named_marks w))) _))
mark_within_by w marks s x orderly at i u (Some t) settled stands it =
    let earlier = orderly.done i t settled in
    let same : t ≡ s = some_same t s (sym (ap (λ o. option_or o (target w u)) settled) ∙ it.kept) in
    let done : IsDone w i u s = subst (λ k. IsDone w i u k) same (subst (λ y. IsDone w i y t) (some_same earlier.0 u (sym earlier.1 ∙ stands)) earlier.2) in
    let shared : is_shared done.symbol.origin ≡ is_shared_at w s = sym (ap (λ o. option_map_or (λ (y : Symbol). is_shared y.origin) o false) done.at) in
    let begins = opening_is w s done.symbol done.at in
    within_trans (subst (λ b. IsWithin (reference_flags u b) (flags_before w s done.symbol)) shared done.marked)
    (subst (λ n. IsWithin n (worked_flags w marks s)) begins
    (within_trans (within_left (slice_index (each_from (flags_before w) 0 w.symbols) s) (bits_for s (named_marks w)))
    (within_left (bit_or (slice_index (each_from (flags_before w) 0 w.symbols) s) (bits_for s (named_marks w))) _)))

-- a mark of the link on a symbol is within the flags that the work leaves
mark_within : (w : Stage) (marks : List Bool) (s : ℕ) (x : Symbol) → IsOrderly w → slice_get w.symbols s ≡ Some x
    → (m : Mark) → Contains (flat_map (λ (q : Symbol × Option ℕ). reference_marks w q.0 q.1) (zip w.symbols (each_from (loaded_target w marks) 0 w.symbols))) m → m.symbol ≡ s
    → IsWithin m.bits (worked_flags w marks s)
mark_within w marks s x orderly at m has is =
    let pair = joined_from (λ (q : Symbol × Option ℕ). reference_marks w q.0 q.1) (zip w.symbols (each_from (loaded_target w marks) 0 w.symbols)) m has in
    let u : Symbol = pair.0.0 in
    let place = zipped_from (loaded_target w marks) 0 w.symbols pair.0 pair.1 in
    let mark = mark_of w u pair.0.1 m pair.2 in
    let zero_add : 0 + place.0 ≡ place.0 = omega arith in
    let same : mark.0 ≡ s = ap (λ (n : Mark). n.symbol) mark.2 ∙ is in
    let has_target : loaded_target w marks place.0 u ≡ Some s = sym (place.2 ∙ ap (λ i. loaded_target w marks i u) zero_add) ∙ mark.1 ∙ ap (λ t. Some t) same in
    subst (λ (n : Mark). IsWithin n.bits (worked_flags w marks s)) mark.2
    (subst (λ t. IsWithin (reference_flags u (is_shared_at w t)) (worked_flags w marks s)) (sym same)
    (mark_within_by w marks s x orderly at place.0 u _ refl place.1 (loaded_target-is w marks place.0 u s has_target)))

-- the flags of the link are within those that the work leaves
link_within : (w : Stage) (marks : List Bool) (s : ℕ) (x : Symbol) → IsOrderly w → slice_get w.symbols s ≡ Some x → IsWithin (linked_flags w marks s x) (worked_flags w marks s)
link_within w marks s x orderly at = within_both opening (bits_within s (all_marks (selection_of w marks)) _ (λ m has is. by_side m is (contains_append m (named_marks w) references has)))
  where
    references : List Mark
    references = flat_map (λ (q : Symbol × Option ℕ). reference_marks w q.0 q.1) (zip w.symbols (each_from (loaded_target w marks) 0 w.symbols))

    opens_with : ℕ
    opens_with = slice_index (each_from (flags_before w) 0 w.symbols) s

    begun : IsWithin (bit_or opens_with (bits_for s (named_marks w))) (worked_flags w marks s)
    begun = within_left (bit_or opens_with (bits_for s (named_marks w))) _

    opening : IsWithin (flags_before w s x) (worked_flags w marks s)
    opening = subst (λ n. IsWithin n (worked_flags w marks s)) (opening_is w s x at) (within_trans (within_left opens_with (bits_for s (named_marks w))) begun)

    by_side : (m : Mark) → m.symbol ≡ s → Contains (named_marks w) m ⊎ Contains references m → IsWithin m.bits (worked_flags w marks s)
    by_side m is (inl named) = within_trans (within_trans (bits_has s (named_marks w) m named is) (within_right opens_with (bits_for s (named_marks w)))) begun
    by_side m is (inr reference) = mark_within w marks s x orderly at m reference is

-- the flags that the work leaves are those of the link
pub work-marked : (w : Stage) (marks : List Bool) (s : ℕ) → IsOrderly w → IsLoaded w marks → s < length w.symbols
    → work.marked (workload_of w) (is_marked marks) s ≡ slice_index (marked_flags (selection_of w marks)) s
work-marked w marks s orderly loaded below = by_symbol (slice_get w.symbols s) refl
  where
    all : List Mark
    all = all_marks (selection_of w marks)

    by_symbol : (o : Option Symbol) → slice_get w.symbols s ≡ o → work.marked (workload_of w) (is_marked marks) s ≡ slice_index (marked_flags (selection_of w marks)) s
    by_symbol None at = absurd (some_below at)
      where
        some_below : slice_get w.symbols s ≡ None → ⊥
        some_below none = grind (arith, common_steps, gets)
    by_symbol (Some x) at =
        let zero_add : 0 + s ≡ s = omega arith in
        within_same (work_within w marks s x at) (link_within w marks s x orderly at)
        ∙ sym (slice_index-each_from (marked_symbol w all) 0 w.symbols s x at ∙ ap (λ n. marked_symbol w all n x) zero_add)
