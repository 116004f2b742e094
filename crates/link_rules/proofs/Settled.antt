-- Each definition of a name points to one of them, which points to itself.
use Rattle.std.proofs.Common.{◌≡◌, ℕ, zero, suc, ◌+◌, List, [], ◌∷◌, Bool, true, false, map, cond, refl, sym, ◌∙◌, ap, subst, inl, inr, ◌⊎◌, arith, Some, None, Option, Contains, slice_get, slice_index, find, filter, option_map, unwrap_or, is_none}
use Rattle.std.specs.Prelude.{codes, ◌++◌, fold, option_and_then, ◌==◌, ◌&&◌, not}
use Rattle.std.specs.Option.{option_or, option_map_or}
use Rattle.link_flags.specs.declared.strength.SymbolStrength.{SymbolStrength}
use Rattle.link_flags.specs.declared.strength.SymbolStrength.TheVariants.{Undefined, Weak, GnuUnique, Strong, Common}
use Rattle.std.specs.List.{filter_map}
use Rattle.link_flags.specs.Pick.{Candidate, pick, first_strong, first_weak, largest_common, is_strong, is_weak, is_largest, common_of}
use Rattle.link_rules.specs.Places.{Bytes, each_from, places_from, kept_if, first_of, are_several, behind_head}
use Rattle.link_rules.specs.Targets.{target, name_table, unshared_in, beside_in, mapped_in, is_open, strength_at}
use Rattle.link_input.specs.declared.internal_symbols.SymbolPlacement.{SymbolPlacement}
use Rattle.link_input.specs.declared.internal_symbols.SymbolPlacement.TheVariants.{Undefined as NoPlacement, SectionStart, SectionEnd, TlsEnd, SectionGroupEnd, ForceUndefined, Redirect as Redirected, LoadBaseAddress, PlatformSpecific}
use Rattle.std.specs.Str.{bytes_eq}
use Rattle.std.proofs.lemmas.Slice.Eq.{bytes_eq-Decides}
use Rattle.link_input.specs.Symbols.{Symbol, Origin, in_prelude, in_object, in_script, in_stub, is_shared}
use Rattle.link_rules.specs.World.{Stage, is_definition, holds_at}
use Rattle.link_rules.specs.Names.{definitions_of, first_definition, is_listed, is_named, is_defining, Mapping, mapping_with, original_of, wrapped, unwrapped, later_definitions}
use Rattle.link_rules.specs.Selection.{Selection, surviving_strength, is_dynamic, target_of}
use Rattle.link_rules.specs.Rivals.{choice, preferred_entry, is_surviving, is_held, static_entries, static_candidates, clash, settled_entry, two_steps, plain_entry, plain_table, reference_entry, reference_table, is_forced}
use Rattle.link_rules.specs.Loading.{is_forced_placement}

module _ {X : Type 0} where
  -- the head is in a list
  pub here : (x : X) (xs : List X) → Contains (x ∷ xs) x
  here x xs = (0, omega arith, refl)

  -- what is in the tail is in a list
  pub there : (x : X) (xs : List X) (y : X) → Contains xs y → Contains (x ∷ xs) y
  there x xs y (k, lt, is) = (suc k, omega arith, is)

  -- what is in a list is its head or in its tail
  pub here_or_there : (x : X) (xs : List X) (y : X) → Contains (x ∷ xs) y → (x ≡ y) ⊎ Contains xs y
  here_or_there x xs y (zero, lt, is) = inl is
  here_or_there x xs y (suc k, lt, is) = inr (k, omega arith, is)

  -- nothing is in the empty list
  pub nothing_in : (y : X) → Contains [] y → ⊥
  nothing_in y (k, lt, is) = omega arith

  -- what is missing is not there
  pub none_some : (x : X) → None ≡ Some x → ⊥
  none_some x is = cc

  -- equal things that are there are equal
  pub some_same : (x y : X) → Some x ≡ Some y → x ≡ y
  some_same x y is = cc

module _ {X : Type 0} where
  -- what stands at a place of the list that a function gives of place and element
  pub slice_index-each_from : (f : ℕ → X → ℕ) (i : ℕ) (xs : List X) (s : ℕ) (x : X) → slice_get xs s ≡ Some x
      → slice_index (each_from f i xs) s ≡ f (i + s) x
  slice_index-each_from f i [] s x is = absurd (none_some x is)
  slice_index-each_from f i (y ∷ ys) zero x is = rw add_zero (ap (f i) (some_same y x is))
    where
      add_zero : i + 0 ≡ i
      add_zero = omega arith
  slice_index-each_from f i (y ∷ ys) (suc s) x is =
      let further : i + 1 + s ≡ i + suc s = omega arith in
      slice_index-each_from f (i + 1) ys s x is ∙ ap (λ n. f n x) further

  -- a place of what passes a test
  pub PlaceOf : (X → Bool) → ℕ → List X → ℕ → Type 0
  PlaceOf p i xs s = (k : ℕ) × (x : X) × (slice_get xs k ≡ Some x) × (p x ≡ true) × (s ≡ i + k)

  -- a place of the tail is one of the list
  place_further : (p : X → Bool) (i : ℕ) (y : X) (ys : List X) (s : ℕ) → PlaceOf p (i + 1) ys s → PlaceOf p i (y ∷ ys) s
  unfolding PlaceOf
  place_further p i y ys s (k, x, at, passes, is) = (suc k, x, at, passes, omega arith)

  -- a place by whether the head passes
  place_by_test : (p : X → Bool) (i : ℕ) (y : X) (ys : List X) (s : ℕ) (b : Bool) → p y ≡ b
      → (Contains (places_from p (i + 1) ys) s → PlaceOf p (i + 1) ys s)
      → Contains (kept_if b i (places_from p (i + 1) ys)) s → PlaceOf p i (y ∷ ys) s
  unfolding PlaceOf
  place_by_test p i y ys s true passes further within = elim (here_or_there i (places_from p (i + 1) ys) s within) [
    | inl is ↦ (0, y, refl, passes, omega arith)
    | inr deeper ↦ place_further p i y ys s (further deeper)
  ]
  place_by_test p i y ys s false fails further within = place_further p i y ys s (further within)

  -- a listed place is that of what passes
  pub place_of : (p : X → Bool) (i : ℕ) (xs : List X) (s : ℕ) → Contains (places_from p i xs) s → PlaceOf p i xs s
  place_of p i [] s within = absurd (nothing_in s within)
  place_of p i (y ∷ ys) s within = place_by_test p i y ys s (p y) refl (place_of p (i + 1) ys s) within

  -- what is found by whether the head passes
  found_by_test : (p : X → Bool) (y : X) (ys : List X) (x : X) (b : Bool) → p y ≡ b → (find p ys ≡ Some x → Contains ys x × (p x ≡ true))
      → cond b (Some y) (find p ys) ≡ Some x → Contains (y ∷ ys) x × (p x ≡ true)
  found_by_test p y ys x true passes further is =
      let same = some_same y x is in
      (subst (λ z. Contains (y ∷ ys) z) same (here y ys), subst (λ z. p z ≡ true) same passes)
  found_by_test p y ys x false fails further is = (there y ys x (further is).0, (further is).1)

  -- what is found is in the list and passes
  pub found : (p : X → Bool) (xs : List X) (x : X) → find p xs ≡ Some x → Contains xs x × (p x ≡ true)
  found p [] x is = absurd (none_some x is)
  found p (y ∷ ys) x is = found_by_test p y ys x (p y) refl (found p ys x) is

  -- what is kept by whether the head passes
  filtered_by_test : (p : X → Bool) (y : X) (ys : List X) (x : X) (b : Bool) → (Contains (filter p ys) x → Contains ys x)
      → Contains (cond b (y ∷ filter p ys) (filter p ys)) x → Contains (y ∷ ys) x
  filtered_by_test p y ys x true further within = elim (here_or_there y (filter p ys) x within) [
    | inl is ↦ subst (λ z. Contains (y ∷ ys) z) is (here y ys)
    | inr deeper ↦ there y ys x (further deeper)
  ]
  filtered_by_test p y ys x false further within = there y ys x (further within)

  -- what is kept is in the list
  pub filtered : (p : X → Bool) (xs : List X) (x : X) → Contains (filter p xs) x → Contains xs x
  filtered p [] x within = within
  filtered p (y ∷ ys) x within = filtered_by_test p y ys x (p y) (filtered p ys x) within

-- the choice among some entries is one of them
pub option_or_cases : (a b : Option ℕ) (s : ℕ) → option_or a b ≡ Some s → (a ≡ Some s) ⊎ (b ≡ Some s)
option_or_cases None b s is = inr is
option_or_cases (Some x) b s is = inl is

-- the id of a candidate is among the ids
id_in : (cs : List Candidate) (c : Candidate) → Contains cs c → Contains (map (λ x. x.0) cs) c.0
id_in [] c within = absurd (nothing_in c within)
id_in (x ∷ xs) c within = elim (here_or_there x xs c within) [
  | inl is ↦ subst (λ (y : Candidate). Contains (x.0 ∷ map (λ z. z.0) xs) y.0) is (here x.0 _)
  | inr deeper ↦ there x.0 _ c.0 (id_in xs c deeper)
]

-- the first candidate that passes is one of them
first_with_in : (p : Candidate → Bool) (cs : List Candidate) (o : Option Candidate) (s : ℕ) → find p cs ≡ o → option_map (λ c. c.0) o ≡ Some s
    → Contains (map (λ c. c.0) cs) s
first_with_in p cs None s is same = absurd (none_some s same)
first_with_in p cs (Some c) s is same = subst (λ z. Contains (map (λ x. x.0) cs) z) (some_same c.0 s same) (id_in cs c (found p cs c is).0)

-- a tentative definition among candidates is one of them
common_in : (cs : List Candidate) (r : ℕ × ℕ) → Contains (filter_map common_of cs) r → Contains (map (λ c. c.0) cs) r.0
common_in [] r within = absurd (nothing_in r within)
common_in ((id, Undefined) ∷ cs) r within = there id _ r.0 (common_in cs r within)
common_in ((id, Weak) ∷ cs) r within = there id _ r.0 (common_in cs r within)
common_in ((id, GnuUnique) ∷ cs) r within = there id _ r.0 (common_in cs r within)
common_in ((id, Strong) ∷ cs) r within = there id _ r.0 (common_in cs r within)
common_in ((id, Common size) ∷ cs) r within = elim (here_or_there (id, size) (filter_map common_of cs) r within) [
  | inl is ↦ subst (λ (q : ℕ × ℕ). Contains (id ∷ map (λ c. c.0) cs) q.0) is (here id _)
  | inr deeper ↦ there id _ r.0 (common_in cs r deeper)
]

-- the largest tentative definition is one of the candidates
largest_in : (cs : List Candidate) (o : Option (ℕ × ℕ)) (s : ℕ) → find (is_largest (filter_map common_of cs)) (filter_map common_of cs) ≡ o
    → option_map (λ c. c.0) o ≡ Some s → Contains (map (λ c. c.0) cs) s
largest_in cs None s is same = absurd (none_some s same)
largest_in cs (Some r) s is same = subst (λ z. Contains (map (λ c. c.0) cs) z) (some_same r.0 s same)
    (common_in cs r (found (is_largest (filter_map common_of cs)) (filter_map common_of cs) r is).0)

-- the pick is one of the candidates
pub pick_in : (weak_first : Bool) (cs : List Candidate) (s : ℕ) → pick weak_first cs ≡ Some s → Contains (map (λ c. c.0) cs) s
pick_in weak_first cs s is = elim (option_or_cases (first_strong cs) _ s is) [
  | inl strong ↦ first_with_in (λ c. is_strong c.1) cs _ s refl strong
  | inr rest ↦ by_order weak_first rest
]
  where
    weak_in : first_weak cs ≡ Some s → Contains (map (λ c. c.0) cs) s
    weak_in weak = first_with_in (λ c. is_weak c.1) cs _ s refl weak

    by_order : (b : Bool) → cond b (option_or (first_weak cs) (largest_common cs)) (option_or (largest_common cs) (first_weak cs)) ≡ Some s
        → Contains (map (λ c. c.0) cs) s
    by_order true same = elim (option_or_cases (first_weak cs) _ s same) [
      | inl weak ↦ weak_in weak
      | inr largest ↦ largest_in cs _ s refl largest
    ]
    by_order false same = elim (option_or_cases (largest_common cs) _ s same) [
      | inl largest ↦ largest_in cs _ s refl largest
      | inr weak ↦ weak_in weak
    ]

-- the ids of candidates made of ids
pub ids_of_candidates : (f : ℕ → SymbolStrength) (xs : List ℕ) → map (λ (c : ℕ × SymbolStrength). c.0) (map (λ s. (s, f s)) xs) ≡ xs
ids_of_candidates f [] = refl
ids_of_candidates f (x ∷ xs) = ap (λ l. x ∷ l) (ids_of_candidates f xs)

-- an entry or the head is an entry
unwrapped_in : (o : Option ℕ) (head : ℕ) (entries : List ℕ) → Contains entries head → ((s : ℕ) → o ≡ Some s → Contains entries s)
    → Contains entries (unwrap_or o head)
unwrapped_in None head entries within each = within
unwrapped_in (Some s) head entries within each = each s refl

-- the choice is an entry
pub choice_in : (l : Selection) (entries : List ℕ) (head : ℕ) → Contains entries head → Contains entries (choice l entries head)
choice_in l entries head within = unwrapped_in (preferred_entry l entries) head entries within each
  where
    each : (s : ℕ) → preferred_entry l entries ≡ Some s → Contains entries s
    each s is = elim (option_or_cases (pick l.stage.rules.weak_overrides_common (static_candidates l entries)) (option_or (find (is_surviving l) entries) (find (is_held l) entries)) s is) [
      | inl first ↦ filtered (λ x. not (is_dynamic l x)) entries s
          (subst (λ ids. Contains ids s) (ids_of_candidates (surviving_strength l) (static_entries l entries))
          (pick_in l.stage.rules.weak_overrides_common (static_candidates l entries) s first))
      | inr rest ↦ elim (option_or_cases (find (is_surviving l) entries) (find (is_held l) entries) s rest) [
        | inl survives ↦ (found (is_surviving l) entries s survives).0
        | inr held ↦ (found (is_held l) entries s held).0
      ]
    ]

-- ---- the table of plain names

-- a conjunction has both parts
pub both_true : (a b : Bool) → (a && b) ≡ true → (a ≡ true) × (b ≡ true)
both_true true b is = (refl, is)
both_true false b is = cc

-- the symbol of this id is listed under its name
pub record IsListedAt (w : Stage) (s : ℕ) (x : Symbol) : Type 0 where
  pub at : slice_get w.symbols s ≡ Some x
  pub listed : is_listed x ≡ true

-- each definition of a name is listed under it
pub listed_in : (w : Stage) (name : Bytes) (s : ℕ) → Contains (definitions_of w.symbols name) s → (x : Symbol) × IsListedAt w s x × (x.name ≡ name)
unfolding PlaceOf
listed_in w name s within =
    let place = place_of (λ x. is_listed x && bytes_eq x.name name) 0 w.symbols s within in
    let both = both_true (is_listed place.1) (bytes_eq place.1.name name) place.3 in
    let same : s ≡ place.0 = omega (arith, place.4) in (
      place.1,
      record { at = subst (λ k. slice_get w.symbols k ≡ Some place.1) (sym same) place.2; listed = both.0 },
      (bytes_eq-Decides place.1.name name).0 both.1,
    )

-- what a plain table says of a listed symbol
plain_is : (l : Selection) (s : ℕ) (x : Symbol) → IsListedAt l.stage s x
    → slice_index (plain_table l) s ≡ settled_entry l (definitions_of l.stage.symbols x.name) (definitions_of l.stage.symbols x.name) (slice_index (reference_table l) s)
plain_is l s x listed =
    let zero_add : 0 + s ≡ s = omega arith in
    slice_index-each_from (plain_entry l (reference_table l)) 0 l.stage.symbols s x listed.at
    ∙ ap (λ n. plain_entry l (reference_table l) n x) zero_add
    ∙ ap (λ b. settled_entry l (cond b (definitions_of l.stage.symbols x.name) []) (cond b (definitions_of l.stage.symbols x.name) []) (slice_index (reference_table l) s)) listed.listed

-- a listed symbol is its own entry at first
listed_source : (x : Symbol) (source : Origin) → is_named x.name source ≡ true → is_forced source ≡ false
listed_source x (in_prelude d) named = by_placement d.placement named
  where
    by_placement : (p : SymbolPlacement) → is_defining p ≡ true → is_forced_placement p ≡ false
    by_placement NoPlacement is = refl
    by_placement (SectionStart n) is = refl
    by_placement (SectionEnd n) is = refl
    by_placement (TlsEnd n) is = refl
    by_placement (SectionGroupEnd n) is = refl
    by_placement ForceUndefined is = cc
    by_placement (Redirected r) is = refl
    by_placement LoadBaseAddress is = refl
    by_placement PlatformSpecific is = refl
listed_source x (in_object n shared e) named = refl
listed_source x (in_script d) named = refl
listed_source x (in_stub strength) named = refl

-- a listed symbol points to itself at first
reference_is : (l : Selection) (s : ℕ) (x : Symbol) → IsListedAt l.stage s x → slice_index (reference_table l) s ≡ s
reference_is l s x listed =
    let zero_add : 0 + s ≡ s = omega arith in
    let both = both_true (is_definition x) (is_named x.name x.origin) listed.listed in
    slice_index-each_from (reference_entry l) 0 l.stage.symbols s x listed.at
    ∙ ap (λ n. reference_entry l n x) zero_add
    ∙ ap (λ b. cond b (unwrap_or (first_definition l.stage x.name) s) (cond (is_definition x) s (unwrap_or (target_of l s) 0))) (listed_source x x.origin both.1)
    ∙ ap (λ b. cond b s (unwrap_or (target_of l s) 0)) both.0

-- the head of several is one of them
pub head_in : (xs : List ℕ) (old : ℕ) → are_several xs ≡ true → Contains xs (unwrap_or (first_of xs) old)
head_in [] old several = cc
head_in (x ∷ xs) old several = here x xs

-- the head of several does not depend on what stands in for it
head_same : (xs : List ℕ) (old new : ℕ) → are_several xs ≡ true → unwrap_or (first_of xs) old ≡ unwrap_or (first_of xs) new
head_same [] old new several = cc
head_same (x ∷ xs) old new several = refl

-- where a symbol of a list points, by whether the list is settled
pub data Settles (l : Selection) (own : List ℕ) (s : ℕ) : ℕ → Type 0 where
  chosen : are_several own ≡ true → is_none (clash l own) ≡ true → Settles l own s (choice l own (unwrap_or (first_of own) s))
  left_alone : Settles l own s s

-- where a symbol points, by the two tests
settles_by : (l : Selection) (own : List ℕ) (s : ℕ) (a b : Bool) → are_several own ≡ a → is_none (clash l own) ≡ b
    → Settles l own s (cond (a && b) (choice l own (unwrap_or (first_of own) s)) s)
settles_by l own s true true several clear = chosen several clear
settles_by l own s true false several clear = left_alone
settles_by l own s false b several clear = left_alone

-- where a symbol of a list points
pub settles : (l : Selection) (own : List ℕ) (s : ℕ) → Settles l own s (settled_entry l own own s)
settles l own s = settles_by l own s (are_several own) (is_none (clash l own)) refl refl

-- the entry of a listed symbol
pub entry_is : (l : Selection) (s : ℕ) (x : Symbol) → IsListedAt l.stage s x
    → slice_index (plain_table l) s ≡ settled_entry l (definitions_of l.stage.symbols x.name) (definitions_of l.stage.symbols x.name) s
entry_is l s x listed = plain_is l s x listed
    ∙ ap (λ old. settled_entry l (definitions_of l.stage.symbols x.name) (definitions_of l.stage.symbols x.name) old) (reference_is l s x listed)

-- each symbol of a settled list points to the choice
settled_again : (l : Selection) (own : List ℕ) (s c : ℕ) → are_several own ≡ true → is_none (clash l own) ≡ true
    → settled_entry l own own c ≡ choice l own (unwrap_or (first_of own) s)
settled_again l own s c several clear =
    ap (λ b. cond (b && is_none (clash l own)) (choice l own (unwrap_or (first_of own) c)) c) several
    ∙ ap (λ b. cond b (choice l own (unwrap_or (first_of own) c)) c) clear
    ∙ ap (λ head. choice l own head) (head_same own c s several)

-- a symbol of a settled list points to a listed symbol of its name, which points to itself
pub fixed_by : (l : Selection) (s : ℕ) (x : Symbol) (t : ℕ) → IsListedAt l.stage s x → slice_index (plain_table l) s ≡ t
    → Settles l (definitions_of l.stage.symbols x.name) s t → slice_index (plain_table l) t ≡ t
fixed_by l s x t listed is (chosen several clear) =
    let own : List ℕ = definitions_of l.stage.symbols x.name in
    let there_it_is = listed_in l.stage x.name t (choice_in l own (unwrap_or (first_of own) s) (head_in own s several)) in
    entry_is l t there_it_is.0 there_it_is.1
    ∙ ap (λ name. settled_entry l (definitions_of l.stage.symbols name) (definitions_of l.stage.symbols name) t) there_it_is.2
    ∙ settled_again l own s t several clear
fixed_by l s x t listed is left_alone = is

-- each definition of a name points to one that points to itself
pub plain_table-twice : (l : Selection) (s : ℕ) (x : Symbol) → slice_get l.stage.symbols s ≡ Some x → is_listed x ≡ true
    → two_steps (plain_table l) s ≡ slice_index (plain_table l) s
plain_table-twice l s x at listed =
    let here_it_is : IsListedAt l.stage s x = record { at = at; listed = listed } in
    let entry = entry_is l s x here_it_is in
    ap (λ t. slice_index (plain_table l) t) entry
    ∙ fixed_by l s x (settled_entry l (definitions_of l.stage.symbols x.name) (definitions_of l.stage.symbols x.name) s) here_it_is entry (settles l (definitions_of l.stage.symbols x.name) s)
    ∙ sym entry

-- ---- what a name is mapped to, and what a reference stands for, is a listed symbol

-- the symbol of this id is listed
unfoldable pub IsListed : Stage → ℕ → Type 0
IsListed w t = (x : Symbol) × IsListedAt w t x

-- names are mapped to listed symbols alone
GivesListed : Stage → Mapping → Type 0
GivesListed w m = (n : Bytes) (t : ℕ) → m n ≡ Some t → IsListed w t

-- so it stays where a name is mapped anew to a listed symbol
gives_listed-mapping_with : (w : Stage) (name : Bytes) (o : Option ℕ) (m : Mapping) → GivesListed w m
    → ((t : ℕ) → o ≡ Some t → IsListed w t) → GivesListed w (mapping_with name o m)
unfolding GivesListed
gives_listed-mapping_with w name None m each new n t is = each n t is
gives_listed-mapping_with w name (Some s) m each new n t is = by_test (bytes_eq n name) is
  where
    by_test : (b : Bool) → cond b (Some s) (m n) ≡ Some t → IsListed w t
    by_test true same = new t same
    by_test false same = each n t same

-- so it stays after a wrap
gives_listed-wrapped : (w : Stage) (m : Mapping) (name : Bytes) → GivesListed w m → GivesListed w (wrapped m name)
unfolding GivesListed
gives_listed-wrapped w m name each =
    gives_listed-mapping_with w (codes "__real_" ++ name) (original_of m name) (mapping_with name (m (codes "__wrap_" ++ name)) m)
    (gives_listed-mapping_with w name (m (codes "__wrap_" ++ name)) m each (λ t is. each _ t is))
    (λ t is. elim (option_or_cases (m (codes "__real_" ++ name)) (m name) t is) [ inl real ↦ each _ t real | inr plain ↦ each _ t plain ])

-- so it stays after all wraps
gives_listed-fold : (w : Stage) (names : List Bytes) (m : Mapping) → GivesListed w m → GivesListed w (fold wrapped m names)
gives_listed-fold w [] m each = each
gives_listed-fold w (name ∷ names) m each = gives_listed-fold w names (wrapped m name) (gives_listed-wrapped w m name each)

-- the first is one of them
pub first_in : (xs : List ℕ) (t : ℕ) → first_of xs ≡ Some t → Contains xs t
first_in [] t is = absurd (none_some t is)
first_in (x ∷ xs) t is = subst (λ z. Contains (x ∷ xs) z) (some_same x t is) (here x xs)

-- each definition of a name is listed
listed_of : (w : Stage) (name : Bytes) (t : ℕ) → Contains (definitions_of w.symbols name) t → IsListed w t
unfolding IsListed
listed_of w name t within = let it = listed_in w name t within in (it.0, it.1)

-- what a name is mapped to is listed
pub first_definition-listed : (w : Stage) (name : Bytes) (t : ℕ) → first_definition w name ≡ Some t → IsListed w t
unfolding GivesListed
first_definition-listed w = gives_listed-fold w w.options.wrap (unwrapped w.symbols)
    (λ name t is. listed_of w name t (first_in (definitions_of w.symbols name) t is))

-- what stands behind the head is in the list
pub behind_head_in : (s : ℕ) (xs : List ℕ) (t : ℕ) → Contains (behind_head s xs) t → Contains xs t
behind_head_in s [] t within = within
behind_head_in s (x ∷ xs) t within = by_test (x == s) within
  where
    by_test : (b : Bool) → Contains (cond b xs []) t → Contains (x ∷ xs) t
    by_test true found_it = there x xs t found_it
    by_test false found_it = absurd (nothing_in t found_it)

-- later definitions are listed
later_listed_by : (w : Stage) (s : ℕ) (o : Option Symbol) (t : ℕ)
    → Contains (option_map_or (λ x. behind_head s (definitions_of w.symbols x.name)) o []) t → IsListed w t
later_listed_by w s None t within = absurd (nothing_in t within)
later_listed_by w s (Some x) t within = listed_of w x.name t (behind_head_in s (definitions_of w.symbols x.name) t within)

-- what is picked beside a shared symbol is listed
picked_listed : (w : Stage) (s t : ℕ) → pick w.rules.weak_overrides_common (unshared_in (name_table w) s) ≡ Some t → IsListed w t
picked_listed w s t is =
    let unshared : ℕ → Bool = λ x. not (holds_at w (λ y. is_shared y.origin) x) in
    let within = subst (λ ids. Contains ids t) (ids_of_candidates (strength_at w) (filter unshared (later_definitions w.symbols s)))
    (pick_in w.rules.weak_overrides_common (unshared_in (name_table w) s) t is) in
    later_listed_by w s (slice_get w.symbols s) t (filtered unshared (later_definitions w.symbols s) t within)

-- a target by whether the mapped symbol will do
target_listed_by : (w : Stage) (s t : ℕ) (b : Bool) → IsListed w s
    → cond b (Some s) (pick w.rules.weak_overrides_common (unshared_in (name_table w) s)) ≡ Some t → IsListed w t
target_listed_by w s t true listed is = subst (IsListed w) (some_same s t is) listed
target_listed_by w s t false listed is = picked_listed w s t is

-- a target by whether a symbol is mapped
target_listed_from : (w : Stage) (u : Symbol) (o : Option ℕ) (t : ℕ) → ((s : ℕ) → o ≡ Some s → IsListed w s)
    → option_and_then (beside_in w.rules.weak_overrides_common (name_table w) (is_open u)) o ≡ Some t → IsListed w t
target_listed_from w u None t each is = absurd (none_some t is)
target_listed_from w u (Some s) t each is = target_listed_by w s t _ (each s refl) is

-- where a reference has no version, its target is listed
pub target-listed : (w : Stage) (u : Symbol) (t : ℕ) → u.version ≡ None → target w u ≡ Some t → IsListed w t
target-listed w u t plain is = target_listed_from w u (first_definition w u.name) t (first_definition-listed w u.name)
    (ap (λ version. option_and_then (beside_in w.rules.weak_overrides_common (name_table w) (is_open u)) (mapped_in (name_table w) u.name version)) (sym plain) ∙ is)
