-- Lists of rivals that are made anew from their heads.
use Rattle.std.proofs.Common.{◌≡◌, ◌∙◌, ◌+◌, ◌<◌, ◌≤◌, ◌&&◌, ℕ, zero, suc, Bool, true, false, List, [], ◌∷◌, ◌++◌, All, Contains, Option, Some, None, Vec, Global, refl, sym, ap, subst, inl, inr, arith, add-one, zero-add, cond, length, filter, if◌then◌else◌, slice_get, slice_set}
use Rattle.std.specs.Prelude.{◌==◌, ◌||◌, nat_lt}
use Rattle.std.specs.List.{range_with_len}
use Rattle.std.specs.Option.{option_map_or}
use Rattle.std.specs.Str.{bytes_eq}
use Rattle.std.proofs.lemmas.Bool.{cases_lt}
use Rattle.std.proofs.lemmas.Bool.Decides.{eqb_tells, nat_tests}
use Rattle.std.proofs.lemmas.List.{append-nil}
use Rattle.std.proofs.lemmas.List.Elements.{All-head, All-tail}
use Rattle.std.proofs.lemmas.Option.{get_or_from_slice_get, slice_get_past, slice_get_within}
use Rattle.link_closure.proofs.Rows.{set-other, set-same}
use Rattle.link_input.specs.Symbols.{Symbol}
use Rattle.link_rules.proofs.Settled.{here, here_or_there, nothing_in, there}
use Rattle.link_rules.specs.Names.{definitions_of, is_listed, is_version_listed, versioned_definitions_of}
use Rattle.link_rules.specs.Places.{Bytes, behind_head, contains, first_of, is_number, kept_if, places_from, same_version}
use Rattle.link_rules.specs.Rivals.{plain_list, versioned_list}
use Rattle.link_rules.specs.World.{Stage}
use Rattle.link_resolve_explanation.specs.Gathered.{AreRows, AscendFrom, before, behind_below, gathered, head_before, head_in, headed, is_behind, row_in}
use Rattle.link_resolve_rivals.specs.Lists.{AreLists, plain_lists, versioned_lists}
use Rattle.link_resolve_rivals.proofs.Heads.{list-inside, same-number}
use Rattle.link_resolve_rivals.proofs.Passes.{contained, containing}

-- ---- rows

-- one number more that passes, or doesn't
filter-more : (p : ℕ → Bool) (a n j : ℕ) → a + n ≡ j → filter p (range_with_len a (suc n)) ≡ filter p (range_with_len a n) ++ (if p j then j ∷ [] else [])
filter-more p a zero j is = let same : a ≡ j = omega (arith, is) in ap (λ k. if p k then k ∷ [] else []) same
filter-more p a (suc n) j is = let next : a + 1 + n ≡ j = omega (arith, is) in by (p a) (filter-more p (a + 1) n j next)
  where
    by : (b : Bool) → filter p (range_with_len (a + 1) (suc n)) ≡ filter p (range_with_len (a + 1) n) ++ (if p j then j ∷ [] else [])
        → cond b (a ∷ filter p (range_with_len (a + 1) (suc n))) (filter p (range_with_len (a + 1) (suc n)))
        ≡ cond b (a ∷ filter p (range_with_len (a + 1) n)) (filter p (range_with_len (a + 1) n)) ++ (if p j then j ∷ [] else [])
    by true rest = ap (λ xs. a ∷ xs) rest
    by false rest = rest

-- one symbol more that may stand behind a head
behind-more : (heads : List (Option ℕ)) (i h : ℕ) → behind_below heads (i + 1) h ≡ behind_below heads i h ++ (if is_behind heads h i then i ∷ [] else [])
behind-more heads i h =
    let zero_add : 0 + i ≡ i = omega arith in
    ap (λ n. behind_below heads n h) (add-one i) ∙ filter-more (is_behind heads h) 0 i i zero_add

-- a symbol that stands behind a head is put into its row
pub row-put : (heads : List (Option ℕ)) (i head : ℕ) (old new : List (Vec ℕ Global)) → Some head ≡ head_before heads i
    → ((h : ℕ) → row_in new h ≡ (if head == h then row_in old h ++ i ∷ [] else row_in old h)) → AreRows heads i old → AreRows heads (i + 1) new
row-put heads i head old new is put rows h lt =
    put h ∙ by (head == h) ∙ ap (λ o. behind_below heads i h ++ (if is_number o h then i ∷ [] else [])) is ∙ sym (behind-more heads i h)
  where
    by : (b : Bool) → (if b then row_in old h ++ i ∷ [] else row_in old h) ≡ behind_below heads i h ++ (if b then i ∷ [] else [])
    by true = ap (λ xs. xs ++ i ∷ []) (rows h lt)
    by false = rows h lt ∙ sym (append-nil (behind_below heads i h))

-- one that stands behind none changes no row
pub row-kept : (heads : List (Option ℕ)) (i : ℕ) (rows : List (Vec ℕ Global)) → None ≡ head_before heads i → AreRows heads i rows → AreRows heads (i + 1) rows
row-kept heads i rows none are h lt =
    are h lt ∙ sym (append-nil (behind_below heads i h))
    ∙ ap (λ o. behind_below heads i h ++ (if is_number o h then i ∷ [] else [])) none ∙ sym (behind-more heads i h)

-- a number more in a row
pub row-pushed : (rows : List (Vec ℕ Global)) (head number : ℕ) (row more : Vec ℕ Global) → head < length rows → slice_get rows head ≡ Some row
    → more.items ≡ row.items ++ number ∷ [] → (h : ℕ)
    → row_in (slice_set rows head more) h ≡ (if head == h then row_in rows h ++ number ∷ [] else row_in rows h)
row-pushed rows head number row more inside at items h = elim (eqb_tells head h) [
  | inl told ↦
      let pushed : row_in (slice_set rows head more) head ≡ row_in rows head ++ number ∷ [] =
      ap (λ o. option_map_or (λ (v : Vec ℕ Global). v.items) o []) (set-same rows head more inside) ∙ items
      ∙ sym (ap (λ o. option_map_or (λ (v : Vec ℕ Global). v.items) o [] ++ number ∷ []) at) in
      subst (λ k. row_in (slice_set rows head more) k ≡ (if head == k then row_in rows k ++ number ∷ [] else row_in rows k)) told.1
      (pushed ∙ sym (ap (λ b. if b then row_in rows head ++ number ∷ [] else row_in rows head) (same-number head)))
  | inr told ↦
      ap (λ o. option_map_or (λ (v : Vec ℕ Global). v.items) o []) (set-other rows head h more (λ same. told.1 (sym same)))
      ∙ sym (ap (λ b. if b then row_in rows h ++ number ∷ [] else row_in rows h) told.0)
]

-- rows are empty at first
pub empty-rows : (heads : List (Option ℕ)) (rows : List (Vec ℕ Global)) → All (λ row. row.items ≡ []) rows → AreRows heads 0 rows
empty-rows heads rows empty h lt = by (slice_get rows h) refl
  where
    by : (o : Option (Vec ℕ Global)) → slice_get rows h ≡ o → option_map_or (λ (v : Vec ℕ Global). v.items) o [] ≡ []
    by None is = refl
    by (Some row) is =
        let inside = slice_get_within rows h row is in
        ap (λ (v : Vec ℕ Global). v.items) (sym (get_or_from_slice_get rows h row row is)) ∙ empty h row inside

-- ---- what stands behind a symbol

-- behind a head stands its row
pub behind-own : (heads : List (Option ℕ)) (id : ℕ) → is_number (head_in heads id) id ≡ true → behind_below heads (length heads) id ≡ behind_head id (gathered heads id)
behind-own heads id = by (head_in heads id)
  where
    by : (o : Option ℕ) → is_number o id ≡ true → behind_below heads (length heads) id ≡ behind_head id (headed heads o)
    by None is = cc
    by (Some h) is = elim (eqb_tells h id) [
      | inl told ↦
          ap (behind_below heads (length heads)) (sym told.1)
          ∙ sym (ap (λ b. if b then behind_below heads (length heads) h else []) is)
      | inr told ↦ absurd (let never : false ≡ true = sym told.0 ∙ is in cc)
    ]

-- behind another symbol stands none
pub behind-none : (heads : List (Option ℕ)) (id : ℕ) → is_number (head_in heads id) id ≡ false → [] ≡ behind_head id (gathered heads id)
behind-none heads id = by (head_in heads id)
  where
    by : (o : Option ℕ) → is_number o id ≡ false → [] ≡ behind_head id (headed heads o)
    by None is = refl
    by (Some h) is = sym (ap (λ b. if b then behind_below heads (length heads) h else []) is)

-- ---- lists that ascend

-- what stands in such a list is no less
pub ascend-least : (n : ℕ) (xs : List ℕ) (t : ℕ) → AscendFrom n xs → Contains xs t → n ≤ t
ascend-least n [] t up within = absurd (nothing_in t within)
ascend-least n (x ∷ xs) t up within = elim (here_or_there x xs t within) [
  | inl is ↦ subst (λ k. n ≤ k) is up.0
  | inr deeper ↦ let least = ascend-least (x + 1) xs t up.1 deeper in omega (arith, least, up.0)
]

-- it ascends from each lesser number too
ascend-less : (m n : ℕ) (xs : List ℕ) → m ≤ n → AscendFrom n xs → AscendFrom m xs
ascend-less m n [] le up = tt
ascend-less m n (x ∷ xs) le up = (omega (arith, le, up.0), up.1)

-- a lesser number is not in it
ascend-outside : (n : ℕ) (xs : List ℕ) (t : ℕ) → AscendFrom n xs → t < n → contains t xs ≡ false
ascend-outside n xs t up lt = by (contains t xs) refl
  where
    by : (b : Bool) → contains t xs ≡ b → b ≡ false
    by false is = refl
    by true is = let least = ascend-least n xs t up (contained t xs is) in absurd (omega (arith, least, lt))

-- numbers in a row of which those pass that stand in such a list
filter-is : (p : ℕ → Bool) (a n : ℕ) (xs : List ℕ) → AscendFrom a xs → All (λ t. t < a + n) xs
    → ((t : ℕ) → a ≤ t → t < a + n → p t ≡ contains t xs) → filter p (range_with_len a n) ≡ xs
filter-is p a zero [] up all same = refl
filter-is p a zero (x ∷ xs) up all same = let less : x < a + 0 = All-head (λ t. t < a + 0) x xs all in absurd (omega (arith, less, up.0))
filter-is p a (suc n) [] up all same =
    let rest : filter p (range_with_len (a + 1) n) ≡ [] = filter-is p (a + 1) n [] tt (λ k d lt. absurd (omega (arith, lt))) (λ t le lt. same t (omega arith) (omega arith)) in
    let here : a < a + suc n = omega arith in
    let start : a ≤ a = omega arith in
    ap (λ b. cond b (a ∷ filter p (range_with_len (a + 1) n)) (filter p (range_with_len (a + 1) n))) (same a start here) ∙ rest
filter-is p a (suc n) (x ∷ xs) up all same =
    let here : a < a + suc n = omega arith in
    let start : a ≤ a = omega arith in
    let more : a + suc n ≡ a + 1 + n = omega arith in
    elim (eqb_tells x a) [
      | inl told ↦
          let passes : p a ≡ true = same a start here ∙ ap (λ b. b || contains a xs) told.0 in
          let rest : filter p (range_with_len (a + 1) n) ≡ xs =
          filter-is p (a + 1) n xs (subst (λ k. AscendFrom (k + 1) xs) told.1 up.1)
          (subst (λ m. All (λ t. t < m) xs) more (All-tail (λ t. t < a + suc n) x xs all))
          (λ t le lt. (let other : (x == t) ≡ false = differs x t (omega (arith, le, told.1)) in same t (omega arith) (omega arith) ∙ ap (λ b. b || contains t xs) other)) in
          ap (λ b. cond b (a ∷ filter p (range_with_len (a + 1) n)) (filter p (range_with_len (a + 1) n))) passes
          ∙ ap (λ ys. a ∷ ys) rest ∙ ap (λ k. k ∷ xs) (sym told.1)
      | inr told ↦
          let next : a + 1 ≤ x = (let apart = told.1 in let least = up.0 in after a x least apart) in
          let further : AscendFrom (a + 1) (x ∷ xs) = (next, up.1) in
          let less : a < a + 1 = omega arith in
          let fails : p a ≡ false = same a start here ∙ ascend-outside (a + 1) (x ∷ xs) a further less in
          ap (λ b. cond b (a ∷ filter p (range_with_len (a + 1) n)) (filter p (range_with_len (a + 1) n))) fails
          ∙ filter-is p (a + 1) n (x ∷ xs) further (subst (λ m. All (λ t. t < m) (x ∷ xs)) more all) (λ t le lt. same t (omega arith) (omega arith))
    ]
  where
    differs : (x t : ℕ) → x < t → (x == t) ≡ false
    differs x t lt = elim (eqb_tells x t) [ inl told ↦ absurd (omega (arith, lt, told.1)) | inr told ↦ told.0 ]

    after : (a x : ℕ) → a ≤ x → (x ≡ a → ⊥) → a + 1 ≤ x
    after a x le apart = grind arith

-- ---- the lists of which these are the heads

-- tests that follow from each other are the same
both-same : (a b : Bool) → (a ≡ true → b ≡ true) → (b ≡ true → a ≡ true) → a ≡ b
both-same true b there back = sym (there refl)
both-same false true there back = back refl
both-same false false there back = refl

-- what stands behind a head has it, and comes later
pub behind-has : (heads : List (Option ℕ)) (h t : ℕ) → is_behind heads h t ≡ true → (head_in heads t ≡ Some h) × (h < t)
behind-has heads h t = by (head_in heads t)
  where
    at-head : (k : ℕ) (b : Bool) → nat_lt k t ≡ b → is_number (if b then Some k else None) h ≡ true → (Some k ≡ Some h) × (h < t)
    at-head k false is passes = cc
    at-head k true is passes = elim (eqb_tells k h) [
      | inl told ↦ let less : k < t = grind (arith, nat_tests) in (ap Some told.1, subst (λ m. m < t) told.1 less)
      | inr told ↦ absurd (let never : false ≡ true = sym told.0 ∙ passes in cc)
    ]

    by : (o : Option ℕ) → is_number (before t o) h ≡ true → (o ≡ Some h) × (h < t)
    by None passes = cc
    by (Some k) passes = at-head k (nat_lt k t) refl passes

-- what has a head that comes earlier stands behind it
pub behind-of : (heads : List (Option ℕ)) (h t : ℕ) → head_in heads t ≡ Some h → h < t → is_behind heads h t ≡ true
behind-of heads h t is lt =
    let less : nat_lt h t ≡ true = grind (arith, nat_tests) in
    ap (λ o. is_number (before t o) h) is ∙ ap (λ b. is_number (if b then Some h else None) h) less ∙ same-number h

module _ (listed : ℕ → List ℕ) (count : ℕ) (heads : List (Option ℕ)) (are : AreLists listed count) (up : (s : ℕ) → AscendFrom 0 (listed s))
    (same-count : length heads ≡ count) (firsts : (s : ℕ) → s < count → head_in heads s ≡ first_of (listed s)) where
  -- each symbol of a list has its head
  has-head : (s h : ℕ) (xs : List ℕ) (t : ℕ) → listed s ≡ h ∷ xs → Contains (h ∷ xs) t → head_in heads t ≡ Some h
  has-head s h xs t is within =
      let inside : Contains (listed s) t = subst (λ ys. Contains ys t) (sym is) within in
      firsts t (are.inside s t inside) ∙ ap first_of (are.same s t inside ∙ is)

  -- what stands behind the head of a list stands in it
  behind-is : (s h : ℕ) (xs : List ℕ) → listed s ≡ h ∷ xs → (t : ℕ) → t < count → is_behind heads h t ≡ contains t xs
  behind-is s h xs is t lt = both-same (is_behind heads h t) (contains t xs) there-by back-by
    where
      there-by : is_behind heads h t ≡ true → contains t xs ≡ true
      there-by passes =
          let (has, less) = behind-has heads h t passes in
          let first : first_of (listed t) ≡ Some h = sym (firsts t lt) ∙ has in
          let head : Contains (listed t) h = first-in (listed t) first in
          let own : listed t ≡ h ∷ xs = sym (are.same t h head) ∙ are.same s h (subst (λ ys. Contains ys h) (sym is) (here h xs)) ∙ is in
          elim (here_or_there h xs t (subst (λ ys. Contains ys t) own (are.own t h head))) [
            | inl same ↦ absurd (omega (arith, less, same))
            | inr deeper ↦ containing t xs deeper
          ]
        where
          first-in : (ys : List ℕ) → first_of ys ≡ Some h → Contains ys h
          first-in [] none = cc
          first-in (y ∷ ys) one = let same : y ≡ h = cc in subst (λ k. Contains (y ∷ ys) k) same (here y ys)

      back-by : contains t xs ≡ true → is_behind heads h t ≡ true
      back-by within =
          let deeper = contained t xs within in
          let ascend : AscendFrom 0 (h ∷ xs) = subst (AscendFrom 0) is (up s) in
          let least = ascend-least (h + 1) xs t ascend.1 deeper in
          behind-of heads h t (has-head s h xs t is (there h xs t deeper)) (omega (arith, least))

  -- these are the lists
  pub gathered-are : (s : ℕ) → gathered heads s ≡ listed s
  gathered-are s = by (listed s) refl
    where
      -- where the symbol stands in none
      lone : listed s ≡ [] → head_in heads s ≡ None
      lone none = elim (cases_lt s count) [
        | inl lt ↦ firsts s lt ∙ ap first_of none
        | inr le ↦ ap (λ o. option_map_or (λ head. head) o None) (slice_get_past heads s (omega (arith, le, same-count)))
      ]

      by : (own : List ℕ) → listed s ≡ own → gathered heads s ≡ own
      by [] is = ap (headed heads) (lone is)
      by (h ∷ xs) is =
          let ascend : AscendFrom 0 (h ∷ xs) = subst (AscendFrom 0) is (up s) in
          let itself : Contains (listed s) s = are.own s h (subst (λ ys. Contains ys h) (sym is) (here h xs)) in
          let all : All (λ t. t < count) xs =
          All-tail (λ t. t < count) h xs (subst (λ ys. All (λ t. t < count) ys) is (list-inside listed count s are)) in
          ap (headed heads) (has-head s h xs s is (subst (λ ys. Contains ys s) is itself))
          ∙ ap (λ n. h ∷ behind_below heads n h) same-count
          ∙ ap (λ ys. h ∷ ys) (filter-is (is_behind heads h) 0 count xs (ascend-less 0 (h + 1) xs (omega arith) ascend.1)
          (subst (λ n. All (λ t. t < n) xs) (sym (zero-add count)) all)
          (λ t le lt. behind-is s h xs is t (subst (λ n. t < n) (zero-add count) lt)))

-- ---- the lists of names ascend

-- places ascend
places-ascend : {X : Type 0} (p : X → Bool) (n : ℕ) (xs : List X) → AscendFrom n (places_from p n xs)
places-ascend p n [] = tt
places-ascend p n (x ∷ xs) = by (p x) (places-ascend p (n + 1) xs)
  where
    by : (b : Bool) → AscendFrom (n + 1) (places_from p (n + 1) xs) → AscendFrom n (kept_if b n (places_from p (n + 1) xs))
    by true rest = (omega arith, rest)
    by false rest = ascend-less n (n + 1) (places_from p (n + 1) xs) (omega arith) rest

-- the definitions of plain names do
pub plain-ascend : (w : Stage) (s : ℕ) → AscendFrom 0 (plain_lists w s)
plain-ascend w s = by (slice_get w.symbols s)
  where
    of : (x : Symbol) (b : Bool) → AscendFrom 0 (if b then definitions_of w.symbols x.name else [])
    of x false = tt
    of x true = places-ascend (λ y. is_listed y && bytes_eq y.name x.name) 0 w.symbols

    by : (o : Option Symbol) → AscendFrom 0 (option_map_or (plain_list w) o [])
    by None = tt
    by (Some x) = of x (is_listed x)

-- so do those of names with versions
pub versioned-ascend : (w : Stage) (s : ℕ) → AscendFrom 0 (versioned_lists w s)
versioned-ascend w s = by (slice_get w.symbols s)
  where
    of : (x : Symbol) (b : Bool) (version : Option Bytes) → AscendFrom 0 (if b then option_map_or (versioned_definitions_of w.symbols x.name) version [] else [])
    of x false version = tt
    of x true None = tt
    of x true (Some v) = places-ascend (λ y. is_version_listed y && bytes_eq y.name x.name && same_version y.version (Some v)) 0 w.symbols

    by : (o : Option Symbol) → AscendFrom 0 (option_map_or (versioned_list w) o [])
    by None = tt
    by (Some x) = of x (is_version_listed x) x.version
