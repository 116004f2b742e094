-- Heads that are checked make lists of rivals, and those of lists stay as they are.
use Rattle.std.proofs.Common.{◌≡◌, ◌∙◌, ◌+◌, ◌<◌, ◌≤◌, ◌&&◌, ℕ, Bool, true, false, List, [], ◌∷◌, ◌++◌, Contains, Option, Some, None, refl, sym, ap, subst, inl, inr, arith, length, if◌then◌else◌, map}
use Rattle.std.specs.Prelude.{nat_le, option_and_then}
use Rattle.std.specs.List.{range_with_len}
use Rattle.std.specs.Option.{option_map_or}
use Rattle.std.proofs.lemmas.Bool.{cases_lt}
use Rattle.std.proofs.lemmas.Bool.Decides.{eqb_tells, nat_tests}
use Rattle.std.proofs.lemmas.List.FromFn.{get_or-map-range_with_len, length-map-range_with_len, map-range_with_len_more}
use Rattle.std.proofs.lemmas.Option.{slice_get-get_or, slice_get_past}
use Rattle.link_rules.proofs.Members.{kept_in, range_in}
use Rattle.link_rules.proofs.Settled.{here, here_or_there, some_same, there}
use Rattle.link_rules.proofs.Twice.{passes as kept-passes}
use Rattle.link_rules.specs.Places.{first_of, is_number}
use Rattle.link_resolve_rivals.proofs.Heads.{same-number}
use Rattle.link_resolve_rivals.specs.Lists.{AreLists}
use Rattle.link_resolve_explanation.specs.Gathered.{AreHeads, AscendFrom, behind_below, checked_head, checked_heads, gathered, head_if, head_in, headed, is_behind}
use Rattle.link_resolve_explanation.proofs.HeadedLists.{ascend-least, behind-has, behind-of, gathered-are}

-- one head more in a column of them
pub heads-more : (f : ℕ → Option ℕ) (i : ℕ) (old new : List (Option ℕ)) (head : Option ℕ) → new ≡ old ++ head ∷ [] → head ≡ f i → old ≡ map f (range_with_len 0 i)
    → new ≡ map f (range_with_len 0 (i + 1))
heads-more f i old new head grown is before =
    grown ∙ ap (λ (h : Option ℕ). old ++ h ∷ []) is ∙ ap (λ heads. heads ++ f i ∷ []) before ∙ sym (map-range_with_len_more f 0 i i (omega arith))

-- as many as before
pub checked-length : (heads : List (Option ℕ)) → length (checked_heads heads) ≡ length heads
checked-length heads = length-map-range_with_len (checked_head heads) 0 (length heads)

-- the checked head of a symbol
checked-in : (heads : List (Option ℕ)) (s : ℕ) → s < length heads → head_in (checked_heads heads) s ≡ checked_head heads s
checked-in heads s lt =
    let short : s < length (checked_heads heads) = omega (arith, lt, checked-length heads) in
    let place : 0 + s ≡ s = omega arith in
    ap (λ o. option_map_or (λ (head : Option ℕ). head) o None) (slice_get-get_or (checked_heads heads) s None short)
    ∙ get_or-map-range_with_len (checked_head heads) 0 (length heads) s s None lt place

-- none where there is no symbol
checked-past : (heads : List (Option ℕ)) (s : ℕ) → length heads ≤ s → head_in (checked_heads heads) s ≡ None
checked-past heads s le =
    let past : length (checked_heads heads) ≤ s = omega (arith, le, checked-length heads) in
    ap (λ o. option_map_or (λ (head : Option ℕ). head) o None) (slice_get_past (checked_heads heads) s past)

-- a head that passes heads its own list, and comes not behind the symbol
if-passes : (heads : List (Option ℕ)) (s k head : ℕ) → head_if heads s k ≡ Some head → (k ≡ head) × (k ≤ s) × (head_in heads k ≡ Some k)
if-passes heads s k head = by (nat_le k s) (head_in heads k) refl refl
  where
    own : (o : Option ℕ) → (if is_number o k then Some k else None) ≡ Some head → (k ≡ head) × (o ≡ Some k)
    own None passes = cc
    own (Some t) passes = elim (eqb_tells t k) [
      | inl told ↦ let one : Some k ≡ Some head = rw told.0 at passes in (some_same k head one, ap Some told.1)
      | inr told ↦ absurd (let none : None ≡ Some head = rw told.0 at passes in cc)
    ]

    by : (le : Bool) (o : Option ℕ) → nat_le k s ≡ le → head_in heads k ≡ o → (if le && is_number o k then Some k else None) ≡ Some head
        → (k ≡ head) × (k ≤ s) × (o ≡ Some k)
    by false o is at passes = cc
    by true o is at passes =
        let it = own o passes in
        let less : k ≤ s = grind (arith, nat_tests) in
        (it.0, less, it.1)

-- one that heads its own list, and comes not behind the symbol, passes
passes-if : (heads : List (Option ℕ)) (s k : ℕ) → k ≤ s → head_in heads k ≡ Some k → head_if heads s k ≡ Some k
passes-if heads s k le own =
    let less : nat_le k s ≡ true = grind (arith, nat_tests) in
    ap (λ b. if b && is_number (head_in heads k) k then Some k else None) less
    ∙ ap (λ o. if is_number o k then Some k else None) own ∙ ap (λ b. if b then Some k else None) (same-number k)

-- what is found of a checked head
checked-is : (heads : List (Option ℕ)) (s head : ℕ) → head_in (checked_heads heads) s ≡ Some head → (s < length heads) × (head ≤ s) × (head_in heads head ≡ Some head)
checked-is heads s head is = elim (cases_lt s (length heads)) [
  | inl lt ↦ (let it = of (head_in heads s) (sym (checked-in heads s lt) ∙ is) in (lt, it.0, it.1))
  | inr le ↦ absurd (let never : None ≡ Some head = sym (checked-past heads s le) ∙ is in cc)
]
  where
    of : (o : Option ℕ) → option_and_then (head_if heads s) o ≡ Some head → (head ≤ s) × (head_in heads head ≡ Some head)
    of None passes = cc
    of (Some k) passes =
        let it = if-passes heads s k head passes in
        (subst (λ n. n ≤ s) it.0 it.1, subst (λ n. head_in heads n ≡ Some n) it.0 it.2)

-- checked heads are heads
pub checked-are-heads : (heads : List (Option ℕ)) → AreHeads (checked_heads heads)
checked-are-heads heads s head is =
    let (lt, le, own) = checked-is heads s head is in
    let inside : head < length heads = omega (arith, lt, le) in
    let itself : head ≤ head = omega arith in
    (le, checked-in heads head inside ∙ ap (option_and_then (head_if heads head)) own ∙ passes-if heads head head itself own)

-- ---- heads make lists

module _ (heads : List (Option ℕ)) (are : AreHeads heads) where
  -- only symbols have heads
  has-place : (s head : ℕ) → head_in heads s ≡ Some head → s < length heads
  has-place s head is = elim (cases_lt s (length heads)) [
    | inl lt ↦ lt
    | inr le ↦ absurd (let never : None ≡ Some head = sym (ap (λ o. option_map_or (λ (head : Option ℕ). head) o None) (slice_get_past heads s le)) ∙ is in cc)
  ]

  -- each symbol of a list has its head
  in-list : (head t : ℕ) → head_in heads head ≡ Some head → Contains (headed heads (Some head)) t → head_in heads t ≡ Some head
  in-list head t own within = elim (here_or_there head (behind_below heads (length heads) head) t within) [
    | inl same ↦ subst (λ n. head_in heads n ≡ Some head) same own
    | inr deeper ↦ (behind-has heads head t (kept-passes (is_behind heads head) (range_with_len 0 (length heads)) t deeper)).0
  ]

  -- the head of a list that is not empty
  head-of : (s t : ℕ) → Contains (gathered heads s) t → (head : ℕ) × (head_in heads s ≡ Some head) × (head_in heads t ≡ Some head)
  head-of s t = by (head_in heads s) refl
    where
      by : (o : Option ℕ) → head_in heads s ≡ o → Contains (headed heads o) t → (head : ℕ) × (o ≡ Some head) × (head_in heads t ≡ Some head)
      by None is within = absurd (let (k, lt, at) = within in omega (arith, lt))
      by (Some head) is within = (head, refl, in-list head t ((are s head is).1) within)

  -- a symbol stands in the list of its head
  in-own : (s head : ℕ) → head_in heads s ≡ Some head → Contains (headed heads (Some head)) s
  in-own s head is = elim (cases_lt head s) [
    | inl lt ↦ there head (behind_below heads (length heads) head) s
        (kept_in (is_behind heads head) (range_with_len 0 (length heads)) s (range_in (length heads) s (has-place s head is)) (behind-of heads head s is lt))
    | inr le ↦ (let same : head ≡ s = (let less = (are s head is).0 in omega (arith, le, less)) in subst (λ n. Contains (headed heads (Some head)) n) same (here head (behind_below heads (length heads) head)))
  ]

  -- these are lists of rivals
  pub gathered-lists : AreLists (gathered heads) (length heads)
  gathered-lists = record {
    own = λ s t within.
        let it = head-of s t within in
        subst (λ o. Contains (headed heads o) s) (sym it.1) (in-own s it.0 it.1);
    same = λ s t within.
        let it = head-of s t within in
        ap (headed heads) (it.2 ∙ sym it.1);
    inside = λ s t within.
        let it = head-of s t within in
        has-place t it.0 it.2;
  }

-- ---- heads of lists

module _ (listed : ℕ → List ℕ) (count : ℕ) (found : List (Option ℕ)) (are : AreLists listed count) (up : (s : ℕ) → AscendFrom 0 (listed s))
    (same-count : length found ≡ count) (firsts : (s : ℕ) → s < count → head_in found s ≡ first_of (listed s)) where
  -- the first of its list passes
  first-passes : (s h : ℕ) (xs : List ℕ) → listed s ≡ h ∷ xs → head_if found s h ≡ Some h
  first-passes s h xs is =
      let first : Contains (listed s) h = subst (λ ys. Contains ys h) (sym is) (here h xs) in
      let itself : Contains (h ∷ xs) s = subst (λ ys. Contains ys s) is (are.own s h first) in
      let ascend : AscendFrom 0 (h ∷ xs) = subst (AscendFrom 0) is (up s) in
      let le : h ≤ s = (elim (here_or_there h xs s itself) [
        | inl same ↦ omega (arith, same)
        | inr deeper ↦ (let least = ascend-least (h + 1) xs s ascend.1 deeper in omega (arith, least))
      ]) in
      passes-if found s h le (firsts h (are.inside s h first) ∙ ap first_of (are.same s h first ∙ is))

  -- so checking changes nothing
  checked-firsts : (s : ℕ) → s < count → head_in (checked_heads found) s ≡ first_of (listed s)
  checked-firsts s lt =
      let short : s < length found = omega (arith, lt, same-count) in
      checked-in found s short ∙ ap (option_and_then (head_if found s)) (firsts s lt) ∙ by (listed s) refl
    where
      by : (own : List ℕ) → listed s ≡ own → option_and_then (head_if found s) (first_of own) ≡ first_of own
      by [] is = refl
      by (h ∷ xs) is = first-passes s h xs is

  -- and what is gathered from them are the lists
  pub gathered-told : (s : ℕ) → gathered (checked_heads found) s ≡ listed s
  gathered-told = gathered-are listed count (checked_heads found) are up (checked-length found ∙ same-count) checked-firsts
