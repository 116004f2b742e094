-- Symbols that stand for nothing anew, told without a look at their tables; and that the symbols of items are symbols of all.
use Rattle.std.proofs.Common.{◌≡◌, ◌∙◌, ◌+◌, ◌<◌, ◌++◌, ℕ, zero, suc, Bool, true, false, List, [], ◌∷◌, Option, Some, None, Contains, arith, cond, drop, length, refl, sym, ap, subst, is_some, slice_get}
use Rattle.std.specs.Prelude.{◌*◌, option_map, option_to_list}
use Rattle.std.specs.List.{enumerate_from, flat_map}
use Rattle.std.specs.Option.{option_map_or}
use Rattle.std.proofs.lemmas.List.{append_assoc}
use Rattle.link_input_groups.proofs.FileTotals.{drop-at}
use Rattle.link_input.specs.Symbols.{Symbol, object_in}
use Rattle.link_rules.specs.Places.{is_number}
use Rattle.link_rules.specs.Work.{item_size}
use Rattle.link_rules.proofs.Members.{at_place, part_from}
use Rattle.link_rules.proofs.Settled.{filtered, none_some, nothing_in, some_same}
use Rattle.link_rules.proofs.Twice.{numbered_at}
use Rattle.link_db_symbols.specs.Lookups.{target_at}
use Rattle.link_db_symbols.specs.Walk.{SymbolsLeft, symbols_of_object, with_ids}
use Rattle.link_resolve_extraction.specs.declared.items.WorkItem.{WorkItem}
use Rattle.link_resolve_extraction.specs.Asked.{ArePart, Known, mark_by, marks_by, meant, new_target, requests_by, targets_by}
use Rattle.link_resolve_extraction.specs.Items.{symbols_at, symbols_of_item}
use Rattle.link_resolve_extraction.proofs.Same.{none-requested}

-- nothing, whatever is tested
nothing_by : (b : Bool) → ◌≡◌ {A = Option ℕ} (cond b None None) None
nothing_by true = refl
nothing_by false = refl

module _ (known : Known) (id : ℕ) (x : Symbol) where
  -- what means nothing stands for nothing anew
  pub meant_nothing : meant known x ≡ None → new_target known (id, x) ≡ None
  meant_nothing none = ap (λ o. cond (is_some (target_at known.settled id)) None o) none ∙ nothing_by (is_some (target_at known.settled id))

  -- what isn't settled stands for what it means
  pub meant_anew : target_at known.settled id ≡ None → new_target known (id, x) ≡ meant known x
  meant_anew none = ap (λ (o : Option ℕ). cond (is_some o) None (meant known x)) none

module _ (known : Known) (s : ℕ × Symbol) (none : new_target known s ≡ None) where
  -- what stands for nothing anew requests nothing
  pub nothing_requested : requests_by known s ≡ []
  nothing_requested = none-requested known.sources s.1 (new_target known s) none

  -- nor is a target told of it
  pub nothing_targeted : targets_by known s ≡ []
  nothing_targeted = ap (λ o. option_to_list (option_map (λ t. (s.0, t)) o)) none

  -- nor does it mark anything
  pub nothing_marked : marks_by known s ≡ []
  nothing_marked = ap (λ o. option_to_list (option_map (mark_by known.sources s.1) o)) none

-- what stands among numbered elements has its number
pub numbered_place : {X : Type 0} (n : ℕ) (xs : List X) (i : ℕ) (s : ℕ × X) → slice_get (enumerate_from n xs) i ≡ Some s → (slice_get xs i ≡ Some s.1) × (s.0 ≡ n + i)
numbered_place n [] i s is = absurd (none_some s is)
numbered_place {X} n (x ∷ xs) zero s is =
    let same = some_same (n, x) s is in
    let number : n ≡ s.0 = ap (λ (q : ℕ × X). q.0) same in
    (ap (λ (q : ℕ × X). Some q.1) same, omega (arith, number))
numbered_place n (x ∷ xs) (suc i) s is =
    let rest = numbered_place (n + 1) xs i s is in
    let number = rest.1 in
    (rest.0, omega (arith, number))

-- an element is numbered by its place
pub numbered_there : {X : Type 0} (n : ℕ) (xs : List X) (i : ℕ) (x : X) → slice_get xs i ≡ Some x → slice_get (enumerate_from n xs) i ≡ Some (n + i, x)
numbered_there n [] i x is = absurd (none_some x is)
numbered_there {X} n (y ∷ xs) zero x is =
    let first : n ≡ n + 0 = omega arith in
    ap (λ (z : X). Some (n, z)) (some_same y x is) ∙ ap (λ k. Some (k, x)) first
numbered_there n (y ∷ xs) (suc i) x is =
    let next : n + 1 + i ≡ n + suc i = omega arith in
    numbered_there (n + 1) xs i x is ∙ ap (λ k. Some (k, x)) next

-- a symbol that stands for nothing anew by its id does so as it stands among symbols with ids
pub nothing_there : (known : Known) (all : List Symbol) (id : ℕ) (s : ℕ × Symbol) → id ≡ s.0 → slice_get all s.0 ≡ Some s.1
    → ((x : Symbol) → slice_get all id ≡ Some x → new_target known (id, x) ≡ None) → new_target known s ≡ None
nothing_there known all id s same at none = subst (λ k. slice_get all k ≡ Some s.1 → new_target known (k, s.1) ≡ None) same (none s.1) at

-- something stands at each place of a list
pub there_is : {X : Type 0} (xs : List X) (i : ℕ) → i < length xs → (x : X) × (slice_get xs i ≡ Some x)
there_is [] i lt = absurd (omega (arith, lt))
there_is (x ∷ xs) zero lt = (x, refl)
there_is (x ∷ xs) (suc i) lt = there_is xs i (omega (arith, lt))

-- what is joined with what an element gives, and with what those behind it give
pub joined_more : {X Y : Type 0} (f : X → List Y) (xs : List X) (i : ℕ) (x : X) (old new all : List Y) → slice_get xs i ≡ Some x → new ≡ old ++ f x
    → old ++ flat_map f (drop i xs) ≡ all → new ++ flat_map f (drop (i + 1) xs) ≡ all
joined_more {X} f xs i x old new all at more before =
    ap (λ l. l ++ flat_map f (drop (i + 1) xs)) more
    ∙ (append_assoc old (f x) (flat_map f (drop (i + 1) xs)) ∙ (ap (λ (l : List X). old ++ flat_map f l) (sym (drop-at xs i x at)) ∙ before))

-- a symbol of an object is one of all
object_part : (f : ℕ) (all : List Symbol) (s : ℕ × Symbol) → Contains (symbols_of_object f all) s → slice_get all s.0 ≡ Some s.1
object_part f all s within =
    let place = numbered_at 0 all s (filtered (λ (q : ℕ × Symbol). is_number (object_in q.1.origin) f) (enumerate_from 0 all) s within) in
    let behind = place.2 in
    let same : place.0 ≡ s.0 = omega arith in
    subst (λ k. slice_get all k ≡ Some s.1) same place.1

-- the symbols of an item are symbols of all
pub item_part : (objects : List SymbolsLeft) (all : List Symbol) → ((f : ℕ) (o : SymbolsLeft) → slice_get objects f ≡ Some o → with_ids o ≡ symbols_of_object f all)
    → (it : WorkItem) → ArePart all (symbols_of_item objects it)
item_part objects all own it at s is =
    by (slice_get objects it.object) refl (part_from item_size (item_size * it.part) (symbols_at objects it.object) s (at_place (symbols_of_item objects it) at s is))
  where
    by : (o : Option SymbolsLeft) → slice_get objects it.object ≡ o → Contains (symbols_at objects it.object) s → slice_get all s.0 ≡ Some s.1
    by None there within = absurd (nothing_in s (subst (λ p. Contains (option_map_or with_ids p []) s) there within))
    by (Some o) there within =
        object_part it.object all s (subst (λ l. Contains l s) (ap (λ p. option_map_or with_ids p []) there ∙ own it.object o there) within)
