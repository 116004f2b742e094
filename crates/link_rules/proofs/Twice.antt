-- Where no symbol has a version, a definition is its own definition.
use Rattle.std.proofs.Common.{◌≡◌, ℕ, zero, suc, ◌+◌, ◌<◌, List, [], ◌∷◌, ◌++◌, Bool, true, false, length, map, cond, refl, sym, ◌∙◌, ap, subst, inl, inr, ◌⊎◌, arith, Some, None, Option, Contains, slice_get, slice_index, unwrap_or, is_some, position, filter, option_map}
use Rattle.std.specs.Prelude.{◌&&◌, ◌||◌, not, nat_lt}
use Rattle.std.specs.Option.{option_or, option_map_or}
use Rattle.std.specs.List.{position_or_len, enumerate_from}
use Rattle.link_rules.specs.Places.{Bytes, each_from, first_of, last_of, same_version}
use Rattle.link_input.specs.Entries.{is_undefined, is_local}
use Rattle.link_input.specs.Symbols.{Symbol, Origin, in_prelude, in_object, in_script, in_stub, symbol_of}
use Rattle.link_rules.specs.World.{Stage, is_definition, is_reference}
use Rattle.link_input.specs.PreludeSymbols.{undefined_symbol}
use Rattle.link_rules.specs.Targets.{target, earlier_target, kept_target}
use Rattle.link_rules.specs.Loading.{is_origin_loaded}
use Rattle.link_rules.specs.Names.{definitions_of, versioned_definitions_of, is_listed, is_version_named, is_named, first_definition}
use Rattle.link_rules.specs.Selection.{Selection, selection_of, loaded_target, target_of}
use Rattle.link_rules.specs.Rivals.{plain_table, plain_entry, reference_table, versioned_table, versioned_entry, versioned_list, settled_entry, stand_in, two_steps, reference_entry, is_forced}
use Rattle.link_rules.specs.Undefined.{Numbered, stays_undefined, final_entry, final_table_over, final_table, definition, left_undefined, boundary_makers, canonical_undefined, is_last_alike, last_alike, new_symbol, asks_same}
use Rattle.link_rules.proofs.Settled.{IsListed, IsListedAt, Settles, chosen, left_alone, settles, entry_is, listed_in, head_in, choice_in, none_some, some_same, slice_index-each_from, plain_table-twice, here, there, here_or_there, nothing_in, both_true, filtered, first_definition-listed, target-listed, option_or_cases}
use Rattle.std.specs.Str.{bytes_eq}
use Rattle.std.proofs.lemmas.Slice.Eq.{bytes_eq-Decides}

module _ {X : Type 0} where
  -- the same with more behind it
  slice_index-each_from_more : (f : ℕ → X → ℕ) (i : ℕ) (xs : List X) (ys : List ℕ) (s : ℕ) (x : X) → slice_get xs s ≡ Some x
      → slice_index (each_from f i xs ++ ys) s ≡ f (i + s) x
  slice_index-each_from_more f i [] ys s x is = absurd (none_some x is)
  slice_index-each_from_more f i (y ∷ rest) ys zero x is =
      let add_zero : i ≡ i + 0 = omega arith in
      ap (f i) (some_same y x is) ∙ ap (λ n. f n x) add_zero
  slice_index-each_from_more f i (y ∷ rest) ys (suc s) x is =
      let further : i + 1 + s ≡ i + suc s = omega arith in
      slice_index-each_from_more f (i + 1) rest ys s x is ∙ ap (λ n. f n x) further

-- without a version there is no versioned list
no_list : (a b : Bool) (own : Option Bytes → List ℕ) (v : Option Bytes) → own None ≡ [] → v ≡ None
    → cond ((a && b) && is_some v) (own v) [] ≡ []
no_list a b own v empty is = ap (λ o. cond ((a && b) && is_some o) (own o) []) is ∙ by_bool ((a && b) && false)
  where
    by_bool : (c : Bool) → cond c (own None) [] ≡ []
    by_bool true = empty
    by_bool false = refl

-- so it is for a symbol
versioned_list-none : (w : Stage) (x : Symbol) → x.version ≡ None → versioned_list w x ≡ []
versioned_list-none w x plain = no_list (is_definition x) (is_version_named x.origin) (λ v. option_map_or (versioned_definitions_of w.symbols x.name) v []) x.version refl plain

-- the table of versions changes nothing
pub versioned_is : (l : Selection) (s : ℕ) (x : Symbol) → slice_get l.stage.symbols s ≡ Some x → x.version ≡ None
    → slice_index (versioned_table l) s ≡ slice_index (plain_table l) s
versioned_is l s x at plain =
    let zero_add : 0 + s ≡ s = omega arith in
    slice_index-each_from (versioned_entry l (plain_table l)) 0 l.stage.symbols s x at
    ∙ ap (λ n. versioned_entry l (plain_table l) n x) zero_add
    ∙ ap (λ own. settled_entry l own (map (stand_in l (plain_table l)) own) (slice_index (plain_table l) s)) (versioned_list-none l.stage x plain)

-- a definition is no reference
not_both_kinds : (x : Symbol) (source : Origin) → is_definition (record { name = x.name; version = x.version; origin = source }) ≡ true
    → is_reference (record { name = x.name; version = x.version; origin = source }) ≡ false
not_both_kinds x (in_prelude d) is = refl
not_both_kinds x (in_object n shared e) is = by_place (is_undefined e.place) (is_local e.binding) _ is
  where
    by_place : (a b c : Bool) → (not a && not c) ≡ true → ((a && not b) && not c) ≡ false
    by_place true b c given = cc
    by_place false b c given = refl
not_both_kinds x (in_script d) is = refl
not_both_kinds x (in_stub strength) is = refl

-- a listed symbol keeps its entry to the end
final_is : (l : Selection) (left : List Numbered) (s : ℕ) (x : Symbol) → slice_get l.stage.symbols s ≡ Some x → is_reference x ≡ false
    → x.version ≡ None → slice_index (final_table_over l left) s ≡ slice_index (plain_table l) s
final_is l left s x at none plain =
    let zero_add : 0 + s ≡ s = omega arith in
    slice_index-each_from_more (final_entry l left (versioned_table l)) 0 l.stage.symbols _ s x at
    ∙ ap (λ n. final_entry l left (versioned_table l) n x) zero_add
    ∙ final_of none
    ∙ versioned_is l s x at plain
  where
    final_of : is_reference x ≡ false → final_entry l left (versioned_table l) s x ≡ slice_index (versioned_table l) s
    final_of not_asked = rw not_asked

-- ---- new symbols

-- the test tells the order
below_from_test : (k n : ℕ) → nat_lt k n ≡ true → k < n
below_from_test k n is = grind arith

-- a position is in the list
position_below : {X : Type 0} (p : X → Bool) (xs : List X) (i : ℕ) → position p xs ≡ Some i → i < length xs
position_below p xs i is = by_test (nat_lt (position_or_len p xs) (length xs)) refl is
  where
    by_test : (b : Bool) → nat_lt (position_or_len p xs) (length xs) ≡ b → cond b (Some (position_or_len p xs)) None ≡ Some i → i < length xs
    by_test true below same = subst (λ k. k < length xs) (some_same _ i same) (below_from_test _ _ below)
    by_test false below same = absurd (none_some i same)

-- what stands among places
slice_index-places : {X : Type 0} (n : ℕ) (xs : List X) (i : ℕ) → i < length xs → slice_index (each_from (λ s m. s) n xs) i ≡ n + i
slice_index-places n [] i below = omega arith
slice_index-places n (x ∷ xs) zero below = omega arith
slice_index-places n (x ∷ xs) (suc i) below =
    let further : n + 1 + i ≡ n + suc i = omega arith in
    slice_index-places (n + 1) xs i (omega (arith, below)) ∙ further

-- what stands behind the old symbols
slice_index-behind : {X : Type 0} (f : ℕ → X → ℕ) (i : ℕ) (xs : List X) (ys : List ℕ) (k : ℕ)
    → slice_index (each_from f i xs ++ ys) (length xs + k) ≡ slice_index ys k
slice_index-behind f i [] ys k =
    let zero_add : 0 + k ≡ k = omega arith in
    ap (λ n. slice_index ys n) zero_add
slice_index-behind f i (x ∷ xs) ys k =
    let further : suc (length xs) + k ≡ suc (length xs + k) = omega arith in
    ap (λ n. slice_index (f i x ∷ (each_from f (i + 1) xs ++ ys)) n) further ∙ slice_index-behind f (i + 1) xs ys k

-- a new symbol is its own definition
new_is : (l : Selection) (left : List Numbered) (i : ℕ) → i < length (boundary_makers l.stage left)
    → slice_index (final_table_over l left) (length l.stage.symbols + i) ≡ length l.stage.symbols + i
new_is l left i below =
    slice_index-behind (final_entry l left (versioned_table l)) 0 l.stage.symbols _ i
    ∙ slice_index-places (length l.stage.symbols) (boundary_makers l.stage left) i below

-- ---- the last reference to an undefined name

module _ {X : Type 0} where
  -- the last is one of them
  last_in : (xs : List X) (x : X) → last_of xs ≡ Some x → Contains xs x
  last_in [] x is = absurd (none_some x is)
  last_in (y ∷ []) x is = subst (λ z. Contains (y ∷ []) z) (some_same y x is) (here y [])
  last_in (y ∷ z ∷ zs) x is = there y (z ∷ zs) x (last_in (z ∷ zs) x is)

  -- what is kept passes, by whether the head does
  passes_by_test : (p : X → Bool) (y : X) (ys : List X) (x : X) (b : Bool) → p y ≡ b → (Contains (filter p ys) x → p x ≡ true)
      → Contains (cond b (y ∷ filter p ys) (filter p ys)) x → p x ≡ true
  passes_by_test p y ys x true passes further within = elim (here_or_there y (filter p ys) x within) [
    | inl is ↦ subst (λ z. p z ≡ true) is passes
    | inr deeper ↦ further deeper
  ]
  passes_by_test p y ys x false fails further within = further within

  -- what is kept passes
  pub passes : (p : X → Bool) (xs : List X) (x : X) → Contains (filter p xs) x → p x ≡ true
  passes p [] x within = absurd (nothing_in x within)
  passes p (y ∷ ys) x within = passes_by_test p y ys x (p y) refl (passes p ys x) within

  -- an element of a numbered list stands at its number
  pub numbered_at : (n : ℕ) (xs : List X) (q : ℕ × X) → Contains (enumerate_from n xs) q → (k : ℕ) × (slice_get xs k ≡ Some q.1) × (q.0 ≡ n + k)
  numbered_at n [] q within = absurd (nothing_in q within)
  numbered_at n (x ∷ xs) q within = elim (here_or_there (n, x) (enumerate_from (n + 1) xs) q within) [
    | inl is ↦ (0, ap (λ (r : ℕ × X). Some r.1) is, sym (ap (λ (r : ℕ × X). r.0) is) ∙ add_zero n)
    | inr deeper ↦ further (numbered_at (n + 1) xs q deeper)
  ]
    where
      add_zero : (m : ℕ) → m ≡ m + 0
      add_zero m = omega arith

      further : (k : ℕ) × (slice_get xs k ≡ Some q.1) × (q.0 ≡ n + 1 + k) → (k : ℕ) × (slice_get (x ∷ xs) k ≡ Some q.1) × (q.0 ≡ n + k)
      further (k, at, is) = (suc k, at, omega arith)

-- what stands for a name and a version
canonical_by : Stage → List Numbered → Bytes → Option Bytes → Option ℕ
canonical_by w left name version = canonical_undefined w left (record { name = name; version = version; origin = in_script undefined_symbol })

-- what an undefined reference points to
left_is : (l : Selection) (left : List Numbered) (s : ℕ) (x : Symbol) → slice_get l.stage.symbols s ≡ Some x → stays_undefined l (s, x) ≡ true
    → x.version ≡ None → slice_index (final_table_over l left) s ≡ unwrap_or (canonical_by l.stage left x.name x.version) s
unfolding canonical_by
left_is l left s x at is_it plain =
    let zero_add : 0 + s ≡ s = omega arith in
    slice_index-each_from_more (final_entry l left (versioned_table l)) 0 l.stage.symbols _ s x at
    ∙ ap (λ n. final_entry l left (versioned_table l) n x) zero_add
    ∙ ap (λ b. cond (not b || (is_some x.version && is_last_alike left (s, x))) (slice_index (versioned_table l) s) (unwrap_or (canonical_undefined l.stage left x) s)) is_it
    ∙ ap (λ v. cond (is_some v && is_last_alike left (s, x)) (slice_index (versioned_table l) s) (unwrap_or (canonical_undefined l.stage left x) s)) plain

-- ---- all together

-- no symbol has a version
unfoldable pub NoVersions : Stage → Type 0
NoVersions w = (s : ℕ) (x : Symbol) → slice_get w.symbols s ≡ Some x → x.version ≡ None

-- the last reference to a name is an undefined one of that name
last_of_left : (l : Selection) (x : Symbol) (g : ℕ) (o : Option Numbered)
    → last_of (filter (λ p. asks_same p.1 x) (left_undefined l)) ≡ o → option_map (λ p. p.0) o ≡ Some g
    → (y : Symbol) × (slice_get l.stage.symbols g ≡ Some y) × (stays_undefined l (g, y) ≡ true) × (y.name ≡ x.name)
last_of_left l x g None is same = absurd (none_some g same)
last_of_left l x g (Some p) is same =
    let among = last_in (filter (λ q. asks_same q.1 x) (left_undefined l)) p is in
    let asks = both_true (bytes_eq p.1.name x.name) (same_version p.1.version x.version) (passes (λ (q : Numbered). asks_same q.1 x) (left_undefined l) p among) in
    let within = filtered (λ (q : Numbered). asks_same q.1 x) (left_undefined l) p among in
    let place = numbered_at 0 l.stage.symbols p (filtered (stays_undefined l) (enumerate_from 0 l.stage.symbols) p within) in
    let id : p.0 ≡ g = some_same p.0 g same in
    let from : place.0 ≡ g = omega (arith, place.2, id) in (
      p.1,
      subst (λ k. slice_get l.stage.symbols k ≡ Some p.1) from place.1,
      subst (λ k. stays_undefined l (k, p.1) ≡ true) id (passes (stays_undefined l) (enumerate_from 0 l.stage.symbols) p within),
      (bytes_eq-Decides p.1.name x.name).0 asks.0,
    )

-- the last reference to a name for which no symbol is made keeps its place
last_is : (l : Selection) (x : Symbol) (g : ℕ) → NoVersions l.stage → x.version ≡ None
    → new_symbol l.stage (boundary_makers l.stage (left_undefined l)) x ≡ None → last_alike (left_undefined l) x ≡ Some g
    → slice_index (final_table l) g ≡ g
unfolding canonical_by NoVersions
last_is l x g plain none not_made greatest =
    let y = last_of_left l x g _ refl greatest in
    let same_version_is : y.0.version ≡ x.version = plain g y.0 y.1 ∙ sym none in
    left_is l (left_undefined l) g y.0 y.1 y.2 (plain g y.0 y.1)
    ∙ ap (λ name. unwrap_or (canonical_by l.stage (left_undefined l) name y.0.version) g) y.3
    ∙ ap (λ version. unwrap_or (canonical_by l.stage (left_undefined l) x.name version) g) same_version_is
    ∙ ap (λ o. unwrap_or (option_or o (last_alike (left_undefined l) x)) g) not_made
    ∙ ap (λ o. unwrap_or o g) greatest

-- it points to itself, or is listed
pub IsGood : Selection → ℕ → Type 0
IsGood l t = (slice_index (final_table l) t ≡ t) ⊎ IsListed l.stage t

-- what stands for an undefined name points to itself
canonical_good : (l : Selection) (x : Symbol) (s : ℕ) (new old : Option ℕ) → NoVersions l.stage → x.version ≡ None
    → new_symbol l.stage (boundary_makers l.stage (left_undefined l)) x ≡ new → last_alike (left_undefined l) x ≡ old
    → slice_index (final_table l) s ≡ unwrap_or (option_or new old) s → IsGood l (unwrap_or (option_or new old) s)
unfolding IsGood
canonical_good l x s None None plain none made greatest is = inl is
canonical_good l x s None (Some g) plain none made greatest is = inl (last_is l x g plain none made greatest)
canonical_good l x s (Some n) old plain none made greatest is = by_place (position (λ m. asks_same m.1 x) (boundary_makers l.stage (left_undefined l))) refl made
  where
    by_place : (o : Option ℕ) → position (λ m. asks_same m.1 x) (boundary_makers l.stage (left_undefined l)) ≡ o
        → option_map (λ i. length l.stage.symbols + i) o ≡ Some n
        → (slice_index (final_table l) n ≡ n) ⊎ IsListed l.stage n
    by_place None at same = absurd (none_some n same)
    by_place (Some i) at same = inl (subst (λ k. slice_index (final_table l) k ≡ k) (some_same (length l.stage.symbols + i) n same)
        (new_is l (left_undefined l) i (position_below (λ m. asks_same m.1 x) (boundary_makers l.stage (left_undefined l)) i at)))

-- a symbol that is not left undefined keeps its entry
unleft_is : (l : Selection) (s : ℕ) (x : Symbol) → NoVersions l.stage → slice_get l.stage.symbols s ≡ Some x → stays_undefined l (s, x) ≡ false
    → slice_index (final_table l) s ≡ slice_index (plain_table l) s
unfolding NoVersions
unleft_is l s x plain at not_left =
    let zero_add : 0 + s ≡ s = omega arith in
    slice_index-each_from_more (final_entry l (left_undefined l) (versioned_table l)) 0 l.stage.symbols _ s x at
    ∙ ap (λ n. final_entry l (left_undefined l) (versioned_table l) n x) zero_add
    ∙ ap (λ b. cond (not b || (is_some x.version && is_last_alike (left_undefined l) (s, x))) (slice_index (versioned_table l) s) (unwrap_or (canonical_undefined l.stage (left_undefined l) x) s)) not_left
    ∙ versioned_is l s x at (plain s x at)

-- a symbol that is not listed keeps its first entry
pub plain_unlisted : (l : Selection) (s : ℕ) (x : Symbol) → slice_get l.stage.symbols s ≡ Some x → is_listed x ≡ false
    → slice_index (plain_table l) s ≡ reference_entry l s x
plain_unlisted l s x at unlisted =
    let zero_add : 0 + s ≡ s = omega arith in
    slice_index-each_from (plain_entry l (reference_table l)) 0 l.stage.symbols s x at
    ∙ ap (λ n. plain_entry l (reference_table l) n x) zero_add
    ∙ ap (λ b. settled_entry l (cond b (definitions_of l.stage.symbols x.name) []) (cond b (definitions_of l.stage.symbols x.name) []) (slice_index (reference_table l) s)) unlisted
    ∙ slice_index-each_from (reference_entry l) 0 l.stage.symbols s x at
    ∙ ap (λ n. reference_entry l n x) zero_add

-- what stands at a place of the list that a function gives of place and element
pub slice_get-each_from : {X Y : Type 0} (f : ℕ → X → Y) (i : ℕ) (xs : List X) (s : ℕ) (x : X) → slice_get xs s ≡ Some x → slice_get (each_from f i xs) s ≡ Some (f (i + s) x)
slice_get-each_from f i [] s x is = absurd (none_some x is)
slice_get-each_from f i (y ∷ ys) zero x is =
    let add_zero : i ≡ i + 0 = omega arith in
    ap (λ z. Some (f i z)) (some_same y x is) ∙ ap (λ n. Some (f n x)) add_zero
slice_get-each_from f i (y ∷ ys) (suc s) x is =
    let further : i + 1 + s ≡ i + suc s = omega arith in
    slice_get-each_from f (i + 1) ys s x is ∙ ap (λ n. Some (f n x)) further

-- the target of a loaded reference is the kept one
pub target_of_is : (w : Stage) (marks : List Bool) (s : ℕ) (x : Symbol) (t : ℕ) → slice_get w.symbols s ≡ Some x
    → target_of (selection_of w marks) s ≡ Some t → kept_target w s x ≡ Some t
target_of_is w marks s x t at is = by_test (is_reference x && is_origin_loaded marks x.origin)
    (ap (λ o. option_map_or (λ (u : Option ℕ). u) o None) (sym (slice_get-each_from (loaded_target w marks) 0 w.symbols s x at ∙ ap (λ n. Some (loaded_target w marks n x)) zero_add)) ∙ is)
  where
    zero_add : 0 + s ≡ s
    zero_add = omega arith

    by_test : (b : Bool) → cond b (kept_target w s x) None ≡ Some t → kept_target w s x ≡ Some t
    by_test true same = same
    by_test false same = absurd (none_some t same)

-- what earlier batches left as targets is listed
unfoldable pub EarlierListed : Stage → Type 0
EarlierListed w = (s t : ℕ) → earlier_target w s ≡ Some t → IsListed w t

-- where no symbol has a version, a kept target is listed
pub kept-listed : (w : Stage) → EarlierListed w → (s : ℕ) (u : Symbol) (t : ℕ) → u.version ≡ None → kept_target w s u ≡ Some t → IsListed w t
unfolding EarlierListed
kept-listed w earlier s u t none is = elim (option_or_cases (earlier_target w s) (target w u) t is) [
  | inl kept ↦ earlier s t kept
  | inr anew ↦ target-listed w u t none anew
]

-- where what the first table says points in the end
reference_good : (w : Stage) (marks : List Bool) (s : ℕ) (x : Symbol) (forced defined : Bool) (first to : Option ℕ)
    → slice_index (final_table (selection_of w marks)) 0 ≡ 0
    → ((t : ℕ) → first ≡ Some t → IsListed w t) → ((t : ℕ) → to ≡ Some t → IsListed w t)
    → slice_index (final_table (selection_of w marks)) s ≡ cond forced (unwrap_or first s) (cond defined s (unwrap_or to 0))
    → IsGood (selection_of w marks) (cond forced (unwrap_or first s) (cond defined s (unwrap_or to 0)))
unfolding IsGood
reference_good w marks s x true defined None to zero_is first_listed to_listed is = inl is
reference_good w marks s x true defined (Some t) to zero_is first_listed to_listed is = inr (first_listed t refl)
reference_good w marks s x false true first to zero_is first_listed to_listed is = inl is
reference_good w marks s x false false first None zero_is first_listed to_listed is = inl zero_is
reference_good w marks s x false false first (Some t) zero_is first_listed to_listed is = inr (to_listed t refl)

-- a listed symbol points to a listed one
settles_listed : (l : Selection) (name : Bytes) (s : ℕ) (x : Symbol) (t : ℕ) → IsListedAt l.stage s x
    → Settles l (definitions_of l.stage.symbols name) s t → IsListed l.stage t
unfolding IsListed
settles_listed l name s x t listed (chosen several clear) =
    let own : List ℕ = definitions_of l.stage.symbols name in
    let it = listed_in l.stage name t (choice_in l own (unwrap_or (first_of own) s) (head_in own s several)) in
    (it.0, it.1)
settles_listed l name s x t listed left_alone = (x, listed)

-- a listed symbol is no reference
definition_no_reference : (x : Symbol) → is_listed x ≡ true → is_reference x ≡ false
definition_no_reference x listed = not_both_kinds x x.origin (both_true (is_definition x) (is_named x.name x.origin) listed).0

-- what a listed symbol points to points to itself
listed_twice : (l : Selection) (t : ℕ) → NoVersions l.stage → IsListed l.stage t → two_steps (final_table l) t ≡ slice_index (final_table l) t
unfolding IsListed NoVersions
listed_twice l t plain it =
    let x = it.0 in
    let entry = entry_is l t x it.1 in
    let next : IsListed l.stage (slice_index (plain_table l) t) = subst (IsListed l.stage) (sym entry)
    (settles_listed l x.name t x _ it.1 (settles l (definitions_of l.stage.symbols x.name) t)) in
    let first = final_is l (left_undefined l) t x it.1.at (definition_no_reference x it.1.listed) (plain t x it.1.at) in
    let second = final_is l (left_undefined l) (slice_index (plain_table l) t) next.0 next.1.at (definition_no_reference next.0 next.1.listed) (plain _ next.0 next.1.at) in
    ap (λ k. slice_index (final_table l) k) first ∙ second ∙ plain_table-twice l t x it.1.at it.1.listed ∙ sym first

-- a symbol that points to a good one means what that means
good_twice : (l : Selection) (s : ℕ) → NoVersions l.stage → IsGood l (slice_index (final_table l) s)
    → two_steps (final_table l) (two_steps (final_table l) s) ≡ two_steps (final_table l) s
unfolding IsGood
good_twice l s plain (inl itself) = ap (λ k. two_steps (final_table l) k) itself ∙ ap (λ k. slice_index (final_table l) k) itself
good_twice l s plain (inr listed) =
    let again = listed_twice l (slice_index (final_table l) s) plain listed in
    ap (λ k. slice_index (final_table l) k) again ∙ again

-- each symbol points to a good one
entry_good : (w : Stage) (marks : List Bool) (s : ℕ) (x : Symbol) (left listed : Bool) → EarlierListed w → NoVersions w → slice_index (final_table (selection_of w marks)) 0 ≡ 0
    → slice_get w.symbols s ≡ Some x → stays_undefined (selection_of w marks) (s, x) ≡ left → is_listed x ≡ listed
    → IsGood (selection_of w marks) (slice_index (final_table (selection_of w marks)) s)
unfolding IsGood NoVersions canonical_by IsListed
entry_good w marks s x true listed earlier plain zero_is at is_it is_listed_it =
    let l : Selection = selection_of w marks in
    let entry = left_is l (left_undefined l) s x at is_it (plain s x at) in
    subst (IsGood l) (sym entry) (canonical_good l x s (new_symbol w (boundary_makers w (left_undefined l)) x) (last_alike (left_undefined l) x) plain (plain s x at) refl refl entry)
entry_good w marks s x false true earlier plain zero_is at is_it is_listed_it =
    let l : Selection = selection_of w marks in
    let here_it_is : IsListedAt w s x = record { at = at; listed = is_listed_it } in
    let entry = unleft_is l s x plain at is_it ∙ entry_is l s x here_it_is in
    subst (IsGood l) (sym entry) (inr (settles_listed l x.name s x _ here_it_is (settles l (definitions_of w.symbols x.name) s)))
entry_good w marks s x false false earlier plain zero_is at is_it is_listed_it =
    let l : Selection = selection_of w marks in
    let entry = unleft_is l s x plain at is_it ∙ plain_unlisted l s x at is_listed_it in
    subst (IsGood l) (sym entry) (reference_good w marks s x (is_forced x.origin) (is_definition x) (first_definition w x.name) (target_of l s) zero_is
    (first_definition-listed w x.name) (λ t is. kept-listed w earlier s x t (plain s x at) (target_of_is w marks s x t at is)) entry)

-- the undefined symbol
abbrev pub undefined : Symbol
undefined = symbol_of undefined_symbol.name (in_prelude undefined_symbol)

-- the undefined symbol points to itself, where it is the first
zero_is_zero : (w : Stage) (marks : List Bool) → NoVersions w → slice_get w.symbols 0 ≡ Some undefined
    → slice_index (final_table (selection_of w marks)) 0 ≡ 0
zero_is_zero w marks plain first =
    let l : Selection = selection_of w marks in
    unleft_is l 0 undefined plain first refl ∙ plain_unlisted l 0 undefined first refl

-- where no symbol has a version and the first one is the undefined one, a definition is its own definition
pub definition-twice : (w : Stage) (marks : List Bool) (s : ℕ) (x : Symbol) → NoVersions w → EarlierListed w → slice_get w.symbols 0 ≡ Some undefined
    → slice_get w.symbols s ≡ Some x
    → definition (selection_of w marks) (definition (selection_of w marks) s) ≡ definition (selection_of w marks) s
definition-twice w marks s x plain earlier first at =
    good_twice (selection_of w marks) s plain (entry_good w marks s x _ _ earlier plain (zero_is_zero w marks plain first) at refl refl)
