-- What the items of a batch's work say: which symbol's requests and marks stand in which item; and that the roots and requests have the same closed sets as the link has.
use Rattle.std.proofs.Common.{◌≡◌, ℕ, zero, suc, ◌+◌, ◌*◌, ◌<◌, List, [], ◌∷◌, Bool, true, false, length, cond, refl, sym, ◌∙◌, ap, subst, inl, inr, ◌⊎◌, arith, Some, None, Option, Contains, slice_get, take, drop, is_some}
use Rattle.std.specs.Prelude.{◌↔◌, ◌||◌, ◌/◌, ◌-◌, ◌==◌, not, option_and_then, option_to_list}
use Rattle.std.specs.Option.{option_map_or}
use Rattle.std.specs.List.{enumerate_from, flat_map, range_with_len, list_any}
use Rattle.std.proofs.lemmas.Bool.Decides.{nat_tests}
use Rattle.link_closure.specs.Closure.{IsClosed, IsLeastClosed, is_marked}
use Rattle.link_closure.specs.declared.workload.Item.{Item}
use Rattle.link_closure.specs.declared.workload.Mark.{Mark}
use Rattle.link_closure.specs.Workload as work
use Rattle.link_closure.proofs.Least.{least_of_alike}
use Rattle.link_input.specs.ObjectFile.{is_optional}
use Rattle.link_input.specs.Symbols.{Symbol, object_in}
use Rattle.link_rules.specs.Places.{Bytes, is_number}
use Rattle.link_rules.specs.World.{Stage, object_of}
use Rattle.link_rules.specs.Names.{first_definition}
use Rattle.link_rules.specs.Targets.{earlier_target}
use Rattle.link_rules.specs.Loading.{IsLoaded, IsRoot, HasEdge, is_root, is_required, holds_name, root_names, request_of}
use Rattle.link_rules.specs.Work.{item_size, item_count, new_requests, new_marks, symbols_with_ids, item_of, object_items, object_places, workload_of}
use Rattle.link_rules.proofs.Settled.{here, here_or_there, nothing_in, none_some, some_same, filtered}
use Rattle.link_rules.proofs.Twice.{passes, numbered_at}
use Rattle.link_rules.proofs.Members.{placed, at_place, map_from, map_in, joined_from, joined_in, kept_in, numbered_in, part_from, part_in, range_in, range_from}
use Rattle.link_rules.specs.Orderly.{IsOrderly}

-- ---- the symbols of an object

-- the same number is there
same_of_number : (o : Option ℕ) (f : ℕ) → is_number o f ≡ true → o ≡ Some f
same_of_number None f is = cc
same_of_number (Some t) f is =
    let same : t ≡ f = grind (arith, nat_tests) in
    ap (λ n. Some n) same

-- a number is the same as itself
number_of_same : (o : Option ℕ) (f : ℕ) → o ≡ Some f → is_number o f ≡ true
number_of_same o f is = ap (λ p. is_number p f) is ∙ itself
  where
    itself : (f == f) ≡ true
    itself = grind (arith, nat_tests)

-- what stands among the symbols of an object is a symbol of it, with its id
pub held_from : (w : Stage) (f : ℕ) (q : ℕ × Symbol) → Contains (symbols_with_ids w f) q → (slice_get w.symbols q.0 ≡ Some q.1) × (object_in q.1.origin ≡ Some f)
held_from w f q within =
    let test : ℕ × Symbol → Bool = λ s. is_number (object_in s.1.origin) f in
    let place = numbered_at 0 w.symbols q (filtered test (enumerate_from 0 w.symbols) q within) in
    let behind = place.2 in
    let same : place.0 ≡ q.0 = omega arith in
    (subst (λ k. slice_get w.symbols k ≡ Some q.1) same place.1, same_of_number (object_in q.1.origin) f (passes test (enumerate_from 0 w.symbols) q within))

-- each symbol of an object stands there, with its id
pub held_in : (w : Stage) (f s : ℕ) (x : Symbol) → slice_get w.symbols s ≡ Some x → object_in x.origin ≡ Some f → Contains (symbols_with_ids w f) (s, x)
held_in w f s x at in_it =
    kept_in (λ (q : ℕ × Symbol). is_number (object_in q.1.origin) f) (enumerate_from 0 w.symbols) (s, x) (numbered_in 0 w.symbols s s x at (omega arith))
    (number_of_same (object_in x.origin) f in_it)

-- ---- the items

-- an item is one of an object, made of symbols of it
pub record IsItemOf (w : Stage) (it : Item) (f : ℕ) (part : List (ℕ × Symbol)) : Type 0 where
  pub is : it ≡ item_of w f part
  pub below : f < length w.objects
  pub each : (q : ℕ × Symbol) → Contains part q → Contains (symbols_with_ids w f) q

-- each item is
pub item_from : (w : Stage) (it : Item) → Contains (flat_map (object_items w) (object_places w)) it → (f : ℕ) × (part : List (ℕ × Symbol)) × IsItemOf w it f part
item_from w it within =
    let of_object = joined_from (object_items w) (object_places w) it within in
    let f : ℕ = of_object.0 in
    let cut = map_from (λ k. item_of w f (take item_size (drop (item_size * k) (symbols_with_ids w f)))) (range_with_len 0 (item_count (length (symbols_with_ids w f)))) it of_object.2 in (
      f,
      take item_size (drop (item_size * cut.0) (symbols_with_ids w f)),
      record {
        is = sym cut.2;
        below = range_from (length w.objects) f of_object.1;
        each = λ q has. part_from item_size (item_size * cut.0) (symbols_with_ids w f) q has;
      },
    )

-- a symbol of an object has an item, with what it requests and marks
pub record HasItemFor (w : Stage) (f : ℕ) (q : ℕ × Symbol) : Type 0 where
  pub place : ℕ
  pub item : Item
  pub at : slice_get (flat_map (object_items w) (object_places w)) place ≡ Some item
  pub file : item.file ≡ f
  pub requests : (g : ℕ) → Contains (new_requests w q) g → Contains item.requests g
  pub marks : (m : Mark) → Contains (new_marks w q) m → Contains item.marks m

-- a part of a list is one of those that are counted
counted : (n k : ℕ) → k < (n + item_size - 1) / item_size → k < item_count n
counted n k below = omega arith

-- each symbol of an object has
pub item_in : (w : Stage) → IsOrderly w → (f s : ℕ) (x : Symbol) → slice_get w.symbols s ≡ Some x → object_in x.origin ≡ Some f → HasItemFor w f (s, x)
item_in w orderly f s x at in_it =
    let cut = part_in item_size (symbols_with_ids w f) (s, x) (omega arith) (held_in w f s x at in_it) in
    let part : List (ℕ × Symbol) = take item_size (drop (item_size * cut.0) (symbols_with_ids w f)) in
    let place = placed (flat_map (object_items w) (object_places w)) (item_of w f part)
    (joined_in (object_items w) (object_places w) f (item_of w f part)
    (range_in (length w.objects) f (orderly.objects x f (at_place w.symbols s x at) in_it))
    (map_in (λ k. item_of w f (take item_size (drop (item_size * k) (symbols_with_ids w f)))) (range_with_len 0 (item_count (length (symbols_with_ids w f)))) cut.0
    (range_in (item_count (length (symbols_with_ids w f))) cut.0 (counted (length (symbols_with_ids w f)) cut.0 cut.1)))) in
    record {
      place = place.0;
      item = item_of w f part;
      at = place.1;
      file = refl;
      requests = λ g has. joined_in (new_requests w) part (s, x) g cut.2 has;
      marks = λ m has. joined_in (new_marks w) part (s, x) m cut.2 has;
    }

-- ---- requests

-- what stands alone where a test fails
alone_from : (b : Bool) (o : Option ℕ) (g : ℕ) → Contains (cond b [] (option_to_list o)) g → (b ≡ false) × (o ≡ Some g)
alone_from true o g within = absurd (nothing_in g within)
alone_from false None g within = absurd (nothing_in g within)
alone_from false (Some x) g within = elim (here_or_there x [] g within) [
  | inl is ↦ (refl, ap (λ n. Some n) is)
  | inr deeper ↦ absurd (nothing_in g deeper)
]

-- what a symbol requests anew it asks for
pub requests_from : (w : Stage) (s : ℕ) (x : Symbol) (g : ℕ) → Contains (new_requests w (s, x)) g → request_of w s x ≡ Some g
requests_from w s x g within = (alone_from (is_some (earlier_target w s)) (request_of w s x) g within).1

-- what it asks for where nothing was settled it requests anew
requests_in : (w : Stage) (s : ℕ) (x : Symbol) (g : ℕ) → earlier_target w s ≡ None → request_of w s x ≡ Some g → Contains (new_requests w (s, x)) g
requests_in w s x g none asks =
    subst (λ (o : Option ℕ). Contains (cond (is_some o) [] (option_to_list (request_of w s x))) g) (sym none)
    (subst (λ (o : Option ℕ). Contains (option_to_list o) g) (sym asks) (here g []))

-- an edge of the work is one of the link
pub edge_from : (w : Stage) (f g : ℕ) → work.HasEdge (workload_of w) f g → HasEdge w f g
edge_from w f g (i, it, at, file, requests) =
    let of_object = item_from w it (at_place (flat_map (object_items w) (object_places w)) i it at) in
    let item = of_object.2 in
    let same : of_object.0 ≡ f = sym (ap (λ (j : Item). j.file) item.is) ∙ file in
    let of_symbol = joined_from (new_requests w) of_object.1 g (subst (λ (j : Item). Contains j.requests g) item.is requests) in
    let held = held_from w of_object.0 of_symbol.0 (item.each of_symbol.0 of_symbol.1) in
    (of_symbol.0.0, of_symbol.0.1, held.0, held.1 ∙ ap (λ n. Some n) same, requests_from w of_symbol.0.0 of_symbol.0.1 g of_symbol.2)

-- an edge of the link is one of the work, or leads to what an earlier batch loaded
edge_by : (w : Stage) → IsOrderly w → (f g s : ℕ) (u : Symbol) (o : Option ℕ) → earlier_target w s ≡ o
    → slice_get w.symbols s ≡ Some u → object_in u.origin ≡ Some f → request_of w s u ≡ Some g
    → work.HasEdge (workload_of w) f g ⊎ (is_marked w.earlier.loaded g ≡ true)
edge_by w orderly f g s u None settled at in_it asks =
    let item = item_in w orderly f s u at in_it in
    inl (item.place, item.item, item.at, item.file, item.requests g (requests_in w s u g settled asks))
edge_by w orderly f g s u (Some t) settled at in_it asks =
    let it = orderly.done s t settled in
    let same : it.0 ≡ u = some_same it.0 u (sym it.1 ∙ at) in
    inr (it.2.requested g (subst (λ (x : Symbol). request_of w s x ≡ Some g) (sym same) asks))

-- ---- roots

-- what an option gives is there
and_then_from : (f : ℕ → Option ℕ) (o : Option ℕ) (y : ℕ) → option_and_then f o ≡ Some y → (x : ℕ) × (f x ≡ Some y)
and_then_from f None y is = absurd (none_some y is)
and_then_from f (Some x) y is = (x, is)

-- a symbol's object is one of the objects
pub object_below : (w : Stage) → IsOrderly w → (t f : ℕ) → object_of w t ≡ Some f → f < length w.objects
object_below w orderly t f is = by_symbol (slice_get w.symbols t) refl is
  where
    by_symbol : (o : Option Symbol) → slice_get w.symbols t ≡ o → option_and_then (λ x. object_in x.origin) o ≡ Some f → f < length w.objects
    by_symbol None at same = absurd (none_some f same)
    by_symbol (Some x) at same = orderly.objects x f (at_place w.symbols t x at) same

-- what holds a name is one of the objects, by whether it holds the first
holder_by_test : (w : Stage) → IsOrderly w → (f : ℕ) (name : Bytes) (rest b : Bool) → holds_name w f name ≡ b → (rest ≡ true → f < length w.objects)
    → (b || rest) ≡ true → f < length w.objects
holder_by_test w orderly f name rest true holds further is =
    let it = and_then_from (object_of w) (first_definition w name) f (same_of_number (option_and_then (object_of w) (first_definition w name)) f holds) in
    object_below w orderly it.0 f it.1
holder_by_test w orderly f name rest false holds further is = further is

-- what holds a name is one of the objects
holder_below : (w : Stage) → IsOrderly w → (f : ℕ) (names : List Bytes) → list_any (holds_name w f) names ≡ true → f < length w.objects
holder_below w orderly f [] is = cc
holder_below w orderly f (name ∷ names) is =
    holder_by_test w orderly f name (list_any (holds_name w f) names) (holds_name w f name) refl (holder_below w orderly f names) is

-- one of two tests holds
either_true : (a b : Bool) → (a || b) ≡ true → (a ≡ true) ⊎ (b ≡ true)
either_true true b is = inl refl
either_true false b is = inr is

-- a mark is one of the marks
marked_below : (marks : List Bool) (f : ℕ) → is_marked marks f ≡ true → f < length marks
marked_below [] f is = cc
marked_below (b ∷ bs) zero is = omega arith
marked_below (b ∷ bs) (suc f) is = let below = marked_below bs f is in omega arith

-- an object that is there
option_below : {X : Type 0} (p : X → Bool) (xs : List X) (f : ℕ) → option_map_or p (slice_get xs f) false ≡ true → f < length xs
option_below p [] f is = cc
option_below p (x ∷ xs) zero is = omega arith
option_below p (x ∷ xs) (suc f) is = let below = option_below p xs f is in omega arith

-- a root is one of the objects
pub root_below : (w : Stage) → IsOrderly w → (f : ℕ) → is_root w f ≡ true → f < length w.objects
root_below w orderly f is = elim (either_true (is_marked w.earlier.loaded f) (is_required w f) is) [
  | inl earlier ↦ let below = marked_below w.earlier.loaded f earlier in let short = orderly.loaded in omega arith
  | inr required ↦ elim (either_true (option_map_or (λ o. not (is_optional o)) (slice_get w.objects f) false) (list_any (holds_name w f) (root_names w)) required) [
    | inl itself ↦ option_below (λ o. not (is_optional o)) w.objects f itself
    | inr named ↦ holder_below w orderly f (root_names w) named
  ]
]

-- a root of the link is one of the work
root_in : (w : Stage) → IsOrderly w → (f : ℕ) → IsRoot w f → work.IsRoot (workload_of w) f
root_in w orderly f is = kept_in (is_root w) (object_places w) f (range_in (length w.objects) f (root_below w orderly f is)) is

-- a root of the work is one of the link
root_from : (w : Stage) (f : ℕ) → work.IsRoot (workload_of w) f → IsRoot w f
root_from w f within = passes (is_root w) (object_places w) f within

-- ---- both have the same closed sets

-- what the work closes, the link closes
closed_for_link : (w : Stage) → IsOrderly w → (holds : ℕ → Bool)
    → IsClosed (work.IsRoot (workload_of w)) (work.HasEdge (workload_of w)) holds → IsClosed (IsRoot w) (HasEdge w) holds
closed_for_link w orderly holds closed = (
  λ f root. closed.0 f (root_in w orderly f root),
  λ f g held edge. elim (edge_by w orderly f g edge.0 edge.1 _ refl edge.2 edge.3 edge.4) [
    | inl anew ↦ closed.1 f g held anew
    | inr earlier ↦ closed.0 g (root_in w orderly g (ap (λ b. b || is_required w g) earlier))
  ],
)

-- what the link closes, the work closes
closed_for_work : (w : Stage) (holds : ℕ → Bool)
    → IsClosed (IsRoot w) (HasEdge w) holds → IsClosed (work.IsRoot (workload_of w)) (work.HasEdge (workload_of w)) holds
closed_for_work w holds closed = (
  λ f root. closed.0 f (root_from w f root),
  λ f g held edge. closed.1 f g held (edge_from w f g edge),
)

-- what is loaded is the least set that the work closes
pub work-loaded : (w : Stage) (marks : List Bool) → IsOrderly w
    → IsLoaded w marks ↔ IsLeastClosed (work.IsRoot (workload_of w)) (work.HasEdge (workload_of w)) (length w.objects) marks
work-loaded w marks orderly = (
  least_of_alike (IsRoot w) (work.IsRoot (workload_of w)) (HasEdge w) (work.HasEdge (workload_of w)) (length w.objects) marks
      (λ holds. (closed_for_work w holds, closed_for_link w orderly holds)),
  least_of_alike (work.IsRoot (workload_of w)) (IsRoot w) (work.HasEdge (workload_of w)) (HasEdge w) (length w.objects) marks
      (λ holds. (closed_for_link w orderly holds, closed_for_work w holds)),
)
