-- What is written of a link's answer, one after another.
use Rattle.std.proofs.Common.{◌≡◌, ◌∙◌, ◌+◌, ◌<◌, ◌≤◌, ◌⊎◌, ℕ, zero, suc, Bool, true, false, List, [], ◌∷◌, ◌++◌, Option, Some, None, Contains, arith, refl, sym, ap, subst, inl, inr, map, length, drop, get_or, set, ext_get_or, slice_get}
use Rattle.std.specs.Prelude.{if◌then◌else◌, nat_lt}
use Rattle.std.specs.List.{range_with_len}
use Rattle.std.specs.Option.{IfSome}
use Rattle.std.proofs.lemmas.Bool.{ltb-false, ltb-true}
use Rattle.std.proofs.lemmas.Bool.Decides.{nat_tests}
use Rattle.std.proofs.lemmas.List.{at_drop_more, get_or-map, get_or_past, length-map, length-set, map-set}
use Rattle.std.proofs.lemmas.List.Elements.{All-head, All-map, All-set, All-tail}
use Rattle.std.proofs.lemmas.List.FromFn.{fill_by_all, get_or-map-range_with_len, length-map-range_with_len}
use Rattle.std.proofs.lemmas.Option.{get_or_from_slice_get, slice_get_within}
use Rattle.link_flags.specs.FlagWords.{numbers_of}
use Rattle.link_flags.specs.declared.value_flags.RawFlags.{RawFlags}
use Rattle.link_rules.specs.Places.{each_from}
use Rattle.link_rules.proofs.Members.{at_place, joined_from, joined_in, placed}
use Rattle.link_rules.proofs.Settled.{here, here_or_there, nothing_in, some_same, there}
use Rattle.link_db_symbols.specs.Lookups.{AreBelow, target_at}
use Rattle.link_resolve_extraction.specs.Answer.{AreTargetsRead, IsReferenceIn, references_in, references_of, with_references}
use Rattle.link_resolve_extraction.specs.declared.found.FoundItem.{FoundItem}
use Rattle.link_resolve_extraction.specs.declared.found.FoundReference.{FoundReference}

-- each element of a list, by its place
pub by-place : {X : Type 0} (d : X) (xs : List X) (n : ℕ) → length xs ≡ n → map (λ i. get_or xs i d) (range_with_len 0 n) ≡ xs
by-place {X} d xs n is =
    let at : ℕ → X = λ i. get_or xs i d in
    let count = length-map-range_with_len at 0 n in
    ext_get_or d (map at (range_with_len 0 n)) xs (count ∙ sym is)
    (λ i lt. let same : 0 + i ≡ i = omega arith in get_or-map-range_with_len at 0 n i i d (omega (arith, lt, count)) same)

-- ---- numbers that are written one after another

-- what a function makes of the numbers before a place, and those behind it as they are
abbrev pub before : (ℕ → ℕ → ℕ) → ℕ → ℕ → ℕ → ℕ
before f n s old = if nat_lt s n then f s old else old

module _ (f : ℕ → ℕ → ℕ) where
  -- behind the place all stay
  before-behind : (n i : ℕ) (xs : List ℕ) → n ≤ i → each_from (before f n) i xs ≡ xs
  before-behind n i [] le = refl
  before-behind n i (x ∷ xs) le =
      let rest = before-behind n (i + 1) xs (omega arith) in
      grind (arith, nat_tests, rest)

  -- at the place it is as it was
  before-at : (i n : ℕ) (xs : List ℕ) (d : ℕ) → get_or (each_from (before f (i + n)) i xs) n d ≡ get_or xs n d
  before-at i n [] d = refl
  before-at i zero (x ∷ xs) d = grind (arith, nat_tests)
  before-at i (suc n) (x ∷ xs) d =
      let next : i + 1 + n ≡ i + suc n = omega arith in
      ap (λ m. get_or (each_from (before f m) (i + 1) xs) n d) (sym next) ∙ before-at (i + 1) n xs d

  -- one more is written
  before-set : (i n : ℕ) (xs : List ℕ) (v d : ℕ) → n < length xs → v ≡ f (i + n) (get_or xs n d)
      → set (each_from (before f (i + n)) i xs) n v ≡ each_from (before f (i + n + 1)) i xs
  before-set i n [] v d lt is = absurd (omega arith)
  before-set i zero (x ∷ xs) v d lt is =
      let same : i + 0 ≡ i = omega arith in
      let old = before-behind (i + 0) (i + 1) xs (omega arith) in
      let new = before-behind (i + 0 + 1) (i + 1) xs (omega arith) in
      grind (arith, nat_tests, old, new)
  before-set i (suc n) (x ∷ xs) v d lt is =
      let next : i + 1 + n ≡ i + suc n = omega arith in
      let rest = before-set (i + 1) n xs v d (omega arith) (is ∙ ap (λ m. f m (get_or xs n d)) (sym next)) in
      grind (arith, nat_tests, rest)

  -- all are written
  before-last : (i n : ℕ) (xs : List ℕ) → i + length xs ≤ n → each_from (before f n) i xs ≡ each_from f i xs
  before-last i n [] le = refl
  before-last i n (x ∷ xs) le =
      let rest = before-last (i + 1) n xs (omega arith) in
      grind (arith, nat_tests, rest)

-- none is written
pub before-none : (f : ℕ → ℕ → ℕ) (xs : List ℕ) → xs ≡ each_from (before f 0) 0 xs
before-none f xs = sym (before-behind f 0 0 xs (omega arith))

-- all words are written
pub before-all : (f : ℕ → ℕ → ℕ) (n : ℕ) (words : List RawFlags) → length words ≤ n → each_from (before f n) 0 (numbers_of words) ≡ each_from f 0 (numbers_of words)
before-all f n words le = before-last f 0 n (numbers_of words) (rw length-map (omega arith))

-- one more word is written
pub before-one-more : (f : ℕ → ℕ → ℕ) (n : ℕ) (first words : List RawFlags) (w d : RawFlags) → length words ≡ length first → n < length words
    → numbers_of words ≡ each_from (before f n) 0 (numbers_of first) → w.0 ≡ f n (get_or words n d).0
    → numbers_of (set words n w) ≡ each_from (before f (n + 1)) 0 (numbers_of first)
before-one-more f n first words w d count lt so_far is =
    let at : n ≡ 0 + n = omega arith in
    let old : (get_or words n d).0 ≡ get_or (numbers_of first) n d.0 =
    sym (get_or-map (λ (x : RawFlags). x.0) words n d d.0 lt) ∙ (ap (λ l. get_or l n d.0) so_far
    ∙ (ap (λ m. get_or (each_from (before f m) 0 (numbers_of first)) n d.0) at ∙ before-at f 0 n (numbers_of first) d.0)) in
    let inside : n < length (numbers_of first) = rw length-map (omega arith) in
    map-set (λ (x : RawFlags). x.0) words n w
    ∙ (ap (λ l. set l n w.0) so_far
    ∙ (ap (λ m. set (each_from (before f m) 0 (numbers_of first)) n w.0) at
    ∙ (before-set f 0 n (numbers_of first) w.0 d.0 inside (is ∙ (ap (f n) old ∙ ap (λ m. f m (get_or (numbers_of first) n d.0)) at))
    ∙ ap (λ m. each_from (before f (m + 1)) 0 (numbers_of first)) (sym at))))

-- ---- what is written at places of a list

module _ {X : Type 0} where
  -- what stands at a place after one was written stood there before, or was written there
  set-cases : (xs : List X) (i s : ℕ) (v o : X) → slice_get (set xs i v) s ≡ Some o → (slice_get xs s ≡ Some o) ⊎ ((i ≡ s) × (o ≡ v))
  set-cases [] i s v o at = inl at
  set-cases (x ∷ xs) zero zero v o at = inr (refl, sym (some_same v o at))
  set-cases (x ∷ xs) zero (suc s) v o at = inl at
  set-cases (x ∷ xs) (suc i) zero v o at = inl at
  set-cases (x ∷ xs) (suc i) (suc s) v o at = elim (set-cases xs i s v o at) [
    | inl old ↦ inl old
    | inr new ↦ inr (ap (λ k. suc k) new.0, new.1)
  ]

  -- what was written stands there
  set-at : (xs : List X) (i : ℕ) (v : X) → i < length xs → slice_get (set xs i v) i ≡ Some v
  set-at [] i v lt = absurd (omega arith)
  set-at (x ∷ xs) zero v lt = refl
  set-at (x ∷ xs) (suc i) v lt = set-at xs i v (omega arith)

  -- what stands at a place stays, if nothing else is written there
  set-keeps : (xs : List X) (i s : ℕ) (v o : X) → (i ≡ s → v ≡ o) → slice_get xs s ≡ Some o → slice_get (set xs i v) s ≡ Some o
  set-keeps [] i s v o same at = at
  set-keeps (x ∷ xs) zero zero v o same at = ap (λ y. Some y) (same refl)
  set-keeps (x ∷ xs) zero (suc s) v o same at = at
  set-keeps (x ∷ xs) (suc i) zero v o same at = at
  set-keeps (x ∷ xs) (suc i) (suc s) v o same at = set-keeps xs i s v o (λ is. same (ap (λ k. suc k) is)) at

-- ---- the targets of references, written one after another

-- as many targets stay
length-written : (targets : List (Option ℕ)) (rs : List FoundReference) → length (with_references targets rs) ≡ length targets
length-written targets [] = refl
length-written targets (r ∷ rs) =
    length-written (set targets r.reference (Some r.target)) rs ∙ length-set targets r.reference (Some r.target)

-- those of two lists of references
written-both : (targets : List (Option ℕ)) (rs more : List FoundReference) → with_references (with_references targets rs) more ≡ with_references targets (rs ++ more)
written-both targets [] more = refl
written-both targets (r ∷ rs) more = written-both (set targets r.reference (Some r.target)) rs more

-- those of one item are written, and the others are left
pub item-next : (targets new : List (Option ℕ)) (found : List (Option FoundItem)) (i : ℕ) (x : Option FoundItem) → i < length found → x ≡ get_or found i x
    → new ≡ with_references targets (references_of x)
    → with_references new (references_in (drop (i + 1) found)) ≡ with_references targets (references_in (drop i found))
item-next targets new found i x lt is new_is =
    ap (λ ts. with_references ts (references_in (drop (i + 1) found))) new_is
    ∙ (written-both targets (references_of x) (references_in (drop (i + 1) found))
    ∙ (ap (λ y. with_references targets (references_of y ++ references_in (drop (i + 1) found))) is
    ∙ sym (at_drop_more (λ l. with_references targets (references_in l)) found i x lt)))

-- a target is one that stood there before, or that of a reference
kept-written : (targets : List (Option ℕ)) (rs : List FoundReference) (s : ℕ) (o : Option ℕ) → slice_get (with_references targets rs) s ≡ Some o
    → (slice_get targets s ≡ Some o) ⊎ ((r : FoundReference) × Contains rs r × (r.reference ≡ s) × (o ≡ Some r.target))
kept-written targets [] s o at = inl at
kept-written targets (r ∷ rs) s o at = elim (kept-written (set targets r.reference (Some r.target)) rs s o at) [
  | inl first ↦ elim (set-cases targets r.reference s (Some r.target) o first) [
    | inl old ↦ inl old
    | inr new ↦ inr (r, here r rs, new.0, new.1)
  ]
  | inr later ↦ inr (later.0, there r rs later.0 later.1, later.2, later.3)
]

-- a target stays where all references of its symbol have it
stays-written : (means : ℕ → Option ℕ) (targets : List (Option ℕ)) (rs : List FoundReference)
    → ((r : FoundReference) → Contains rs r → means r.reference ≡ Some r.target) → (s t : ℕ) → means s ≡ Some t
    → slice_get targets s ≡ Some (Some t) → slice_get (with_references targets rs) s ≡ Some (Some t)
stays-written means targets [] each s t is at = at
stays-written means targets (r ∷ rs) each s t is at =
    stays-written means (set targets r.reference (Some r.target)) rs (λ q has. each q (there r rs q has)) s t is
    (set-keeps targets r.reference s (Some r.target) (Some t) (λ same. sym (each r (here r rs)) ∙ ap means same ∙ is) at)

-- each reference has its target
all-written : (means : ℕ → Option ℕ) (targets : List (Option ℕ)) (rs : List FoundReference)
    → ((r : FoundReference) → Contains rs r → means r.reference ≡ Some r.target) → (r : FoundReference) → Contains rs r → r.reference < length targets
    → slice_get (with_references targets rs) r.reference ≡ Some (Some r.target)
all-written means targets [] each r within lt = absurd (nothing_in r within)
all-written means targets (q ∷ rs) each r within lt = elim (here_or_there q rs r within) [
  | inl is ↦ subst (λ (p : FoundReference). slice_get (with_references targets (q ∷ rs)) p.reference ≡ Some (Some p.target)) is
      (stays-written means (set targets q.reference (Some q.target)) rs (λ p has. each p (there q rs p has)) q.reference q.target (each q (here q rs))
      (set-at targets q.reference (Some q.target) (subst (λ (p : FoundReference). p.reference < length targets) (sym is) lt)))
  | inr deeper ↦ all-written means (set targets q.reference (Some q.target)) rs (λ p has. each p (there q rs p has)) r deeper
      (omega (arith, lt, length-set targets q.reference (Some q.target)))
]

-- they stay below a number
below-written : (n : ℕ) (targets : List (Option ℕ)) (rs : List FoundReference) → AreBelow n targets → ((r : FoundReference) → Contains rs r → r.target < n)
    → AreBelow n (with_references targets rs)
below-written n targets [] below each = below
below-written n targets (r ∷ rs) below each =
    below-written n (set targets r.reference (Some r.target)) rs
    (All-set (λ target. IfSome target (λ t. t < n)) targets r.reference (Some r.target) (each r (here r rs)) below)
    (λ q has. each q (there r rs q has))

-- ---- what is read

-- a reference that was found is one of those of all items
listed-in : (found : List (Option FoundItem)) (r : FoundReference) → IsReferenceIn found r → Contains (references_in found) r
listed-in found r (i, x, at, has) = joined_in references_of found (Some x) r (at_place found i (Some x) at) has

-- and each of these was found
found-in : (found : List (Option FoundItem)) (r : FoundReference) → Contains (references_in found) r → IsReferenceIn found r
found-in found r within =
    let it = joined_from references_of found r within in
    by it.0 it.1 it.2
  where
    by : (o : Option FoundItem) → Contains found o → Contains (references_of o) r → IsReferenceIn found r
    by None stands has = absurd (nothing_in r has)
    by (Some x) stands has = let place = placed found (Some x) stands in (place.0, x, place.1, has)

-- what stands at a place of what a function gives of numbers
numbered-is : (f : ℕ → Option ℕ) (n s : ℕ) (o : Option ℕ) → slice_get (map f (range_with_len 0 n)) s ≡ Some o → o ≡ f s
numbered-is f n s o at =
    let xs = map f (range_with_len 0 n) in
    let count = length-map-range_with_len f 0 n in
    let inside = slice_get_within xs s o at in
    let same : 0 + s ≡ s = omega arith in
    sym (get_or_from_slice_get xs s o o at) ∙ get_or-map-range_with_len f 0 n s s o (omega (arith, count, inside)) same

-- what earlier batches settled is below a number
target-below : (n : ℕ) (settled : List (Option ℕ)) (s : ℕ) → AreBelow n settled → IfSome (target_at settled s) (λ t. t < n)
target-below n [] s below = tt
target-below n (o ∷ os) zero below = All-head (λ target. IfSome target (λ t. t < n)) o os below
target-below n (o ∷ os) (suc s) below = target-below n os s (All-tail (λ target. IfSome target (λ t. t < n)) o os below)

-- the target of a symbol is what stands at its place, if there is a place
target-at : (targets : List (Option ℕ)) (s : ℕ) → get_or targets s None ≡ target_at targets s
target-at [] s = refl
target-at (o ∷ os) zero = refl
target-at (o ∷ os) (suc s) = target-at os s

-- targets that are cut to a number of symbols, or filled up to it by none
pub resized : (old new : List (Option ℕ)) (n : ℕ) → length new ≡ n → ((k : ℕ) → k < n → k < length old → get_or new k None ≡ get_or old k None)
    → ((k : ℕ) → length old ≤ k → k < n → get_or new k None ≡ None) → new ≡ map (target_at old) (range_with_len 0 n)
resized old new n long kept filled =
    fill_by_all (target_at old) new n None long (λ k lt. by k lt (nat_lt k (length old)) refl ∙ target-at old k)
  where
    by : (k : ℕ) → k < n → (b : Bool) → nat_lt k (length old) ≡ b → get_or new k None ≡ get_or old k None
    by k lt true is = kept k lt (ltb-true k (length old) is)
    by k lt false is =
        let past = ltb-false k (length old) is in
        filled k past lt ∙ sym (get_or_past old k None past)

module _ (symbols : ℕ) (settled : List (Option ℕ)) (found : List (Option FoundItem)) where
  -- the targets that are read
  abbrev pub read : List (Option ℕ)
  read = with_references (map (target_at settled) (range_with_len 0 symbols)) (references_in found)

  -- they are what is said of them
  pub targets-read : AreTargetsRead symbols settled found read
  targets-read = record {
    len = length-written first (references_in found) ∙ count;
    kept = λ s o at. elim (kept-written first (references_in found) s o at) [
      | inl old ↦ inl (numbered-is (target_at settled) symbols s o old)
      | inr new ↦ inr (new.0, found-in found new.0 new.1, new.2, new.3)
    ];
    written = λ means each r has lt.
        all-written means first (references_in found) (λ q in_it. each q (found-in found q in_it)) r (listed-in found r has) (omega (arith, lt, count));
  }
    where
      first : List (Option ℕ)
      first = map (target_at settled) (range_with_len 0 symbols)

      count : length first ≡ symbols
      count = length-map-range_with_len (target_at settled) 0 symbols

  -- and are below a number
  pub targets-below : (n : ℕ) → AreBelow n settled → ((r : FoundReference) → IsReferenceIn found r → r.target < n) → AreBelow n read
  targets-below n below each =
      below-written n (map (target_at settled) (range_with_len 0 symbols)) (references_in found)
      (All-map (λ target. IfSome target (λ t. t < n)) (target_at settled) (range_with_len 0 symbols) (λ k d lt. target-below n settled (get_or (range_with_len 0 symbols) k d) below))
      (λ r has. each r (found-in found r has))
