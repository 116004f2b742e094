-- A workload whose names are all there has a least closed set: marks that grow round by round stand still in the end.
use Rattle.std.proofs.Common.{◌≡◌, ℕ, zero, suc, ◌+◌, ◌<◌, ◌≤◌, List, [], ◌∷◌, length, Bool, true, false, Some, ◌⊎◌, inl, inr, refl, sym, ◌∙◌, ap, subst, arith, Contains, slice_get}
use Rattle.std.specs.Prelude.{◌&&◌, ◌||◌, ◌==◌, IsTrue, replicate}
use Rattle.std.specs.List.{list_any}
use Rattle.std.proofs.lemmas.Bool.{eqb-true, eq-eqb}
use Rattle.link_closure.specs.Closure.{IsClosed, IsLeastClosed, is_marked}
use Rattle.link_closure.specs.declared.workload.Item.{Item}
use Rattle.link_closure.specs.declared.workload.Workload.{Workload}
use Rattle.link_closure.specs.Workload.{IsRoot, HasEdge, IsSound}
use Rattle.link_rules.specs.Places.{each_from, contains}
use Rattle.link_rules.proofs.Settled.{here, there, here_or_there, nothing_in, none_some, some_same, both_true}

-- a disjunction has one of its parts
pub either : (a b : Bool) → (a || b) ≡ true → (a ≡ true) ⊎ (b ≡ true)
either true b is = inl refl
either false b is = inr is

-- what has the second part has it
or-right : (a b : Bool) → b ≡ true → (a || b) ≡ true
or-right true b is = refl
or-right false b is = is

-- two tests that hold, hold together
and-both : (a b : Bool) → a ≡ true → b ≡ true → (a && b) ≡ true
and-both true b first second = second
and-both false b first second = cc

-- ---- lists

-- something passes, so it is found at a place
pub any-found : {X : Type 0} (p : X → Bool) (xs : List X) → list_any p xs ≡ true → (k : ℕ) × (x : X) × (slice_get xs k ≡ Some x) × (p x ≡ true)
any-found p [] is = absurd cc
any-found p (x ∷ xs) is = elim (either (p x) (list_any p xs) is) [
  | inl first ↦ (0, x, refl, first)
  | inr further ↦ let it = any-found p xs further in (suc it.0, it.1, it.2, it.3)
]

-- what stands at a place and passes is found
pub found-any : {X : Type 0} (p : X → Bool) (xs : List X) (k : ℕ) (x : X) → slice_get xs k ≡ Some x → p x ≡ true → list_any p xs ≡ true
found-any p [] k x at passes = absurd (none_some x at)
found-any p (y ∷ ys) zero x at passes = ap (λ b. b || list_any p ys) (ap p (some_same y x at) ∙ passes)
found-any p (y ∷ ys) (suc k) x at passes = or-right (p y) (list_any p ys) (found-any p ys k x at passes)

-- a number that is in a list is one of its
pub contains-in : (n : ℕ) (xs : List ℕ) → contains n xs ≡ true → Contains xs n
contains-in n [] is = absurd cc
contains-in n (x ∷ xs) is = elim (either (x == n) (contains n xs) is) [
  | inl first ↦ subst (λ m. Contains (x ∷ xs) m) (eqb-true x n first) (here x xs)
  | inr further ↦ there x xs n (contains-in n xs further)
]

-- one of its numbers is in the list
pub in-contains : (n : ℕ) (xs : List ℕ) → Contains xs n → contains n xs ≡ true
in-contains n [] within = absurd (nothing_in n within)
in-contains n (x ∷ xs) within = elim (here_or_there x xs n within) [
  | inl same ↦ ap (λ b. b || contains n xs) (eq-eqb x n same)
  | inr further ↦ or-right (x == n) (contains n xs) (in-contains n xs further)
]

-- ---- marks

-- how many marks are set
abbrev marked_count : List Bool → ℕ
marked_count [] = 0
marked_count (true ∷ bs) = suc (marked_count bs)
marked_count (false ∷ bs) = marked_count bs

-- no more than there are
count-fits : (bs : List Bool) → marked_count bs ≤ length bs
count-fits [] = omega arith
count-fits (true ∷ bs) = omega (arith, count-fits bs)
count-fits (false ∷ bs) = omega (arith, count-fits bs)

-- what a mark is at a place inside
mark-at : (bs : List Bool) (k : ℕ) (b : Bool) → slice_get bs k ≡ Some b → is_marked bs k ≡ b
mark-at [] k b at = absurd (none_some b at)
mark-at (x ∷ xs) zero b at = some_same x b at
mark-at (x ∷ xs) (suc k) b at = mark-at xs k b at

-- marks that a test joins
abbrev joined : (ℕ → Bool) → ℕ → List Bool → List Bool
joined q n bs = each_from (λ g b. b || q g) n bs

-- there are as many
joined-length : (q : ℕ → Bool) (n : ℕ) (bs : List Bool) → length (joined q n bs) ≡ length bs
joined-length q n [] = refl
joined-length q n (b ∷ bs) = let rest = joined-length q (n + 1) bs in omega (arith, rest)

-- each one that was set stays, and each that passes is set
joined-has : (q : ℕ → Bool) (n : ℕ) (bs : List Bool) (k : ℕ) → k < length bs → (is_marked bs k || q (n + k)) ≡ true → is_marked (joined q n bs) k ≡ true
joined-has q n [] k below is = absurd (omega (arith, below))
joined-has q n (b ∷ bs) zero below is =
    let same : n + 0 ≡ n = omega arith in
    subst (λ m. (b || q m) ≡ true) same is
joined-has q n (b ∷ bs) (suc k) below is =
    let next : n + suc k ≡ n + 1 + k = omega arith in
    joined-has q (n + 1) bs k (omega (arith, below)) (subst (λ m. (is_marked bs k || q m) ≡ true) next is)

-- what is set was set, or passes
joined-only : (q : ℕ → Bool) (n : ℕ) (bs : List Bool) (k : ℕ) → is_marked (joined q n bs) k ≡ true → (is_marked bs k || q (n + k)) ≡ true
joined-only q n [] k is = absurd cc
joined-only q n (b ∷ bs) zero is =
    let same : n ≡ n + 0 = omega arith in
    subst (λ m. (b || q m) ≡ true) same is
joined-only q n (b ∷ bs) (suc k) is =
    let next : n + 1 + k ≡ n + suc k = omega arith in
    subst (λ m. (is_marked bs k || q m) ≡ true) next (joined-only q (n + 1) bs k is)

-- the same marks, or more of them
same-or-more : (q : ℕ → Bool) (n : ℕ) (bs : List Bool) → (joined q n bs ≡ bs) ⊎ (marked_count bs < marked_count (joined q n bs))
same-or-more q n [] = inl refl
same-or-more q n (true ∷ bs) = elim (same-or-more q (n + 1) bs) [
  | inl same ↦ inl (ap (λ (xs : List Bool). true ∷ xs) same)
  | inr more ↦ inr (omega (arith, more))
]
same-or-more q n (false ∷ bs) = by_test (q n) (same-or-more q (n + 1) bs)
  where
    by_test : (b : Bool) → (joined q (n + 1) bs ≡ bs) ⊎ (marked_count bs < marked_count (joined q (n + 1) bs))
        → (b ∷ joined q (n + 1) bs ≡ false ∷ bs) ⊎ (marked_count bs < marked_count (b ∷ joined q (n + 1) bs))
    by_test true (inl same) = inr (let count = ap marked_count same in omega (arith, count))
    by_test true (inr more) = inr (omega (arith, more))
    by_test false (inl same) = inl (ap (λ (xs : List Bool). false ∷ xs) same)
    by_test false (inr more) = inr more

-- ---- rounds

module _ (w : Workload) (sound : IsSound w) where
  -- an item of a marked file requests g
  abbrev asks : List Bool → ℕ → Item → Bool
  asks marks g it = is_marked marks it.file && contains g it.requests

  -- what items of marked files request is marked too
  abbrev grown : List Bool → List Bool
  grown marks = joined (λ g. list_any (asks marks g) w.items) 0 marks

  -- after so many rounds
  abbrev rounds : ℕ → List Bool → List Bool
  rounds zero marks = marks
  rounds (suc k) marks = rounds k (grown marks)

  -- marks that stand still stay so
  still : (k : ℕ) (marks : List Bool) → grown marks ≡ marks → rounds k marks ≡ marks
  still zero marks same = refl
  still (suc k) marks same = ap (rounds k) same ∙ still k marks same

  -- after as many rounds as marks are missing, they stand still
  settled : (k : ℕ) (marks : List Bool) → length marks ≤ marked_count marks + k → grown (rounds k marks) ≡ rounds k marks
  settled zero marks enough = elim (same-or-more (λ g. list_any (asks marks g) w.items) 0 marks) [
    | inl same ↦ same
    | inr more ↦ absurd (omega (arith, more, enough, count-fits (grown marks), joined-length (λ g. list_any (asks marks g) w.items) 0 marks))
  ]
  settled (suc k) marks enough = elim (same-or-more (λ g. list_any (asks marks g) w.items) 0 marks) [
    | inl same ↦ ap (λ (m : List Bool). grown (rounds k m)) same ∙ ap grown (still k marks same) ∙ same ∙ sym (ap (rounds k) same ∙ still k marks same)
    | inr more ↦ settled k (grown marks) (omega (arith, more, enough, joined-length (λ g. list_any (asks marks g) w.items) 0 marks))
  ]

  -- rounds keep the number of marks
  rounds-length : (k : ℕ) (marks : List Bool) → length (rounds k marks) ≡ length marks
  rounds-length zero marks = refl
  rounds-length (suc k) marks = rounds-length k (grown marks) ∙ joined-length (λ g. list_any (asks marks g) w.items) 0 marks

  -- what is set stays set
  rounds-keep : (k : ℕ) (marks : List Bool) (f : ℕ) → f < length marks → is_marked marks f ≡ true → is_marked (rounds k marks) f ≡ true
  rounds-keep zero marks f below is = is
  rounds-keep (suc k) marks f below is = rounds-keep k (grown marks) f
      (let many = joined-length (λ g. list_any (asks marks g) w.items) 0 marks in omega (arith, below, many))
      (joined-has (λ g. list_any (asks marks g) w.items) 0 marks f below (ap (λ b. b || list_any (asks marks (0 + f)) w.items) is))

  -- a round stays in every closed set that holds the marks
  grown-within : (other : ℕ → Bool) → IsClosed (IsRoot w) (HasEdge w) other → (marks : List Bool) → ((f : ℕ) → is_marked marks f ≡ true → IsTrue (other f))
      → (g : ℕ) → is_marked (grown marks) g ≡ true → IsTrue (other g)
  grown-within other closed marks within g is =
      elim (either (is_marked marks g) (list_any (asks marks (0 + g)) w.items) (joined-only (λ h. list_any (asks marks h) w.items) 0 marks g is)) [
        | inl old ↦ within g old
        | inr new ↦
            let it = any-found (asks marks (0 + g)) w.items new in
            let both = both_true (is_marked marks it.1.file) (contains (0 + g) it.1.requests) it.3 in
            let same : 0 + g ≡ g = omega arith in
            closed.1 it.1.file g (within it.1.file both.0) (it.0, it.1, it.2, refl, subst (λ m. Contains it.1.requests m) same (contains-in (0 + g) it.1.requests both.1))
      ]

  -- so do several
  rounds-within : (other : ℕ → Bool) → IsClosed (IsRoot w) (HasEdge w) other → (k : ℕ) (marks : List Bool) → ((f : ℕ) → is_marked marks f ≡ true → IsTrue (other f))
      → (g : ℕ) → is_marked (rounds k marks) g ≡ true → IsTrue (other g)
  rounds-within other closed zero marks within g is = within g is
  rounds-within other closed (suc k) marks within g is = rounds-within other closed k (grown marks) (grown-within other closed marks within) g is

  -- marks that stand still hold with each file all that its items request
  still-closed : (marks : List Bool) → length marks ≡ w.files → grown marks ≡ marks → (f g : ℕ) → IsTrue (is_marked marks f) → HasEdge w f g → IsTrue (is_marked marks g)
  still-closed marks each same f g held (i, it, at, of_file, within) =
      let below : g < length marks = subst (λ n. g < n) (sym each) (sound.requests i g (it, at, within)) in
      let of_it : is_marked marks it.file ≡ true = ap (is_marked marks) of_file ∙ held in
      let asked : asks marks (0 + g) it ≡ true =
      let number : 0 + g ≡ g = omega arith in
      and-both (is_marked marks it.file) (contains (0 + g) it.requests) of_it (ap (λ m. contains m it.requests) number ∙ in-contains g it.requests within) in
      let new : (is_marked marks g || list_any (asks marks (0 + g)) w.items) ≡ true = or-right (is_marked marks g) _ (found-any (asks marks (0 + g)) w.items i it at asked) in
      ap (λ (m : List Bool). is_marked m g) (sym same) ∙ joined-has (λ h. list_any (asks marks h) w.items) 0 marks g below new

  -- the marks of the roots
  abbrev root_marks : List Bool
  root_marks = joined (λ f. contains f w.roots) 0 (replicate w.files false)

  -- none is set
  none-set : (n k : ℕ) → is_marked (replicate n false) k ≡ true → ⊥
  none-set zero k is = cc
  none-set (suc n) zero is = cc
  none-set (suc n) (suc k) is = none-set n k is

  -- as many as are asked for
  replicate-length : (n : ℕ) → length (replicate {A = Bool} n false) ≡ n
  replicate-length zero = refl
  replicate-length (suc n) = let rest = replicate-length n in omega (arith, rest)

  -- there is a mark for each file
  root-length : length root_marks ≡ w.files
  root-length = joined-length (λ f. contains f w.roots) 0 (replicate w.files false) ∙ replicate-length w.files

  -- a root is marked
  root-marked : (f : ℕ) → IsRoot w f → is_marked root_marks f ≡ true
  root-marked f root =
      let number : 0 + f ≡ f = omega arith in
      joined-has (λ g. contains g w.roots) 0 (replicate w.files false) f (let many = replicate-length w.files in omega (arith, many, sound.roots f root))
      (or-right (is_marked (replicate w.files false) f) (contains (0 + f) w.roots) (ap (λ m. contains m w.roots) number ∙ in-contains f w.roots root))

  -- what is marked is a root
  marked-root : (f : ℕ) → is_marked root_marks f ≡ true → IsRoot w f
  marked-root f is = elim (either (is_marked (replicate w.files false) f) (contains (0 + f) w.roots) (joined-only (λ g. contains g w.roots) 0 (replicate w.files false) f is)) [
    | inl old ↦ absurd (none-set w.files f old)
    | inr new ↦
        let number : 0 + f ≡ f = omega arith in
        subst (λ m. Contains w.roots m) number (contains-in (0 + f) w.roots new)
  ]

  -- a workload has a least closed set
  pub some-least : (marks : List Bool) × IsLeastClosed (IsRoot w) (HasEdge w) w.files marks
  some-least =
      let last : List Bool = rounds w.files root_marks in
      let enough : length root_marks ≤ marked_count root_marks + w.files = omega (arith, root-length) in
      let each : length last ≡ w.files = rounds-length w.files root_marks ∙ root-length in (
        last,
        record {
          each = each;
          closed = (
            λ f root. rounds-keep w.files root_marks f (let many = root-length in omega (arith, many, sound.roots f root)) (root-marked f root),
            still-closed last each (settled w.files root_marks enough),
          );
          least = λ other closed. rounds-within other closed w.files root_marks (λ f is. closed.0 f (marked-root f is));
        },
      )
