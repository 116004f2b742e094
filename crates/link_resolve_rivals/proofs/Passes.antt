-- A pass over all heads comes to each list once.
use Rattle.std.proofs.Common.{◌≡◌, ◌∙◌, ◌+◌, ◌<◌, ◌≤◌, ℕ, zero, suc, Bool, true, false, List, [], ◌∷◌, Contains, Some, None, refl, sym, ap, subst, inl, inr, arith, length, if◌then◌else◌, slice_get, slice_index}
use Rattle.std.specs.Prelude.{nat_lt}
use Rattle.std.proofs.lemmas.Bool.Decides.{eqb_tells, nat_tests}
use Rattle.link_rules.proofs.Settled.{here, here_or_there, nothing_in, some_same, there}
use Rattle.link_rules.specs.Places.{contains, each_from, first_of, is_number}
use Rattle.link_resolve_rivals.specs.Lists.{AreLists}
use Rattle.link_resolve_rivals.proofs.Heads.{same-number}

-- the list begins below a number
abbrev pub is_passed : ℕ → List ℕ → Bool
is_passed i [] = false
is_passed i (x ∷ xs) = nat_lt x i

-- what is asked of a list says that it is in it
pub contained : (s : ℕ) (xs : List ℕ) → contains s xs ≡ true → Contains xs s
contained s [] is = cc
contained s (x ∷ xs) is = elim (eqb_tells x s) [
  | inl told ↦ subst (λ t. Contains (x ∷ xs) t) told.1 (here x xs)
  | inr told ↦ let rest : contains s xs ≡ true = rw told.0 at is in there x xs s (contained s xs rest)
]

-- what is in a list is found there
pub containing : (s : ℕ) (xs : List ℕ) → Contains xs s → contains s xs ≡ true
containing s [] within = absurd (nothing_in s within)
containing s (x ∷ xs) within = elim (eqb_tells x s) [
  | inl told ↦ rw told.0 refl
  | inr told ↦ rw told.0 (elim (here_or_there x xs s within) [ inl same ↦ absurd (told.1 same) | inr deeper ↦ containing s xs deeper ])
]

-- where no list of a symbol begins with the number, one number more changes nothing
passed-same : (i : ℕ) (own : List ℕ) → (first_of own ≡ Some i → ⊥) → is_passed (i + 1) own ≡ is_passed i own
passed-same i [] other = refl
passed-same i (x ∷ xs) other = elim (eqb_tells x i) [
  | inl told ↦ absurd (other (ap Some told.1))
  | inr told ↦ (let differ = told.1 in grind (arith, nat_tests))
]

-- a list that begins with the number is passed with the next, and not before
passed-next : (i : ℕ) (xs : List ℕ) → (is_passed (i + 1) (i ∷ xs) ≡ true) × (is_passed i (i ∷ xs) ≡ false)
passed-next i xs = (grind (arith, nat_tests), grind (arith, nat_tests))

-- what a symbol has once the lists are done that begin below a number: what it shall have, or what it had
abbrev pub done_below : (ℕ → List ℕ) → (ℕ → ℕ → ℕ) → (ℕ → ℕ) → ℕ → ℕ → ℕ
done_below listed F old i s = if is_passed i (listed s) then F s (old s) else old s

-- what a symbol has once this list is done, if it begins with the number
abbrev pub done_on : (ℕ → ℕ → ℕ) → List ℕ → ℕ → ℕ → ℕ → ℕ
done_on F own i s now = if is_number (first_of own) i then (if contains s own then F s now else now) else now

module _ (listed : ℕ → List ℕ) (n : ℕ) (are : AreLists listed n) (F : ℕ → ℕ → ℕ) (old : ℕ → ℕ) where
  -- symbols of the list that begins with the number are as they were
  pub undone : (i : ℕ) (xs : List ℕ) (s : ℕ) → listed s ≡ i ∷ xs → done_below listed F old i s ≡ old s
  undone i xs s is = ap (λ own. if is_passed i own then F s (old s) else old s) is ∙ ap (λ b. if b then F s (old s) else old s) (passed-next i xs).1

  -- a symbol whose list begins with the number has the list of that number
  same-list : (i s : ℕ) → first_of (listed s) ≡ Some i → listed i ≡ listed s
  same-list i s first = are.same s i (first-in (listed s) first)
    where
      first-in : (own : List ℕ) → first_of own ≡ Some i → Contains own i
      first-in [] is = cc
      first-in (x ∷ xs) is = let same : x ≡ i = cc in subst (λ t. Contains (x ∷ xs) t) same (here x xs)

  -- each symbol of the list that begins with a number has that list
  pub list-shared : (i : ℕ) (xs : List ℕ) (s : ℕ) → listed i ≡ i ∷ xs → Contains (i ∷ xs) s → listed s ≡ i ∷ xs
  list-shared i xs s is within = are.same i s (subst (λ own. Contains own s) (sym is) within) ∙ is

  -- where no list of the symbol begins with the number, nothing changes with the next
  same-below : (i s : ℕ) → (first_of (listed s) ≡ Some i → ⊥) → done_below listed F old i s ≡ done_below listed F old (i + 1) s
  same-below i s other = ap (λ b. if b then F s (old s) else old s) (sym (passed-same i (listed s) other))

  -- where the list that begins with the number is done
  headed-below : (i : ℕ) (xs : List ℕ) (s now : ℕ) → listed i ≡ i ∷ xs → now ≡ done_below listed F old i s
      → (b : Bool) → contains s (i ∷ xs) ≡ b → (if b then F s now else now) ≡ done_below listed F old (i + 1) s
  headed-below i xs s now is so_far true within =
      let own : listed s ≡ i ∷ xs = list-shared i xs s is (contained s (i ∷ xs) within) in
      ap (F s) (so_far ∙ undone i xs s own)
      ∙ sym (ap (λ ys. if is_passed (i + 1) ys then F s (old s) else old s) own
      ∙ ap (λ b. if b then F s (old s) else old s) (passed-next i xs).0)
  headed-below i xs s now is so_far false outside = so_far ∙ same-below i s other
    where
      other : first_of (listed s) ≡ Some i → ⊥
      other first =
          let one : listed s ≡ i ∷ xs = sym (same-list i s first) ∙ is in
          let head : Contains (listed s) i = subst (λ ys. Contains ys i) (sym one) (here i xs) in
          let within : contains s (i ∷ xs) ≡ true = containing s (i ∷ xs) (subst (λ ys. Contains ys s) one (are.own s i head)) in
          cc

  -- one head more
  pub done-more : (i s now : ℕ) → now ≡ done_below listed F old i s → done_on F (listed i) i s now ≡ done_below listed F old (i + 1) s
  done-more i s now so_far = by (listed i) refl
    where
      unheaded : (first_of (listed i) ≡ Some i → ⊥) → now ≡ done_below listed F old (i + 1) s
      unheaded other = so_far ∙ same-below i s (λ first. other (ap first_of (same-list i s first) ∙ first))

      by : (own : List ℕ) → listed i ≡ own → done_on F own i s now ≡ done_below listed F old (i + 1) s
      by [] is = unheaded (λ first. (let never : None ≡ Some i = sym (ap first_of is) ∙ first in cc))
      by (x ∷ xs) is = elim (eqb_tells x i) [
        | inl told ↦
            let headed : listed i ≡ i ∷ xs = is ∙ ap (λ h. h ∷ xs) told.1 in
            subst (λ h. done_on F (h ∷ xs) i s now ≡ done_below listed F old (i + 1) s) (sym told.1)
            (ap (λ b. if b then (if contains s (i ∷ xs) then F s now else now) else now) (same-number i)
            ∙ headed-below i xs s now headed so_far (contains s (i ∷ xs)) refl)
        | inr told ↦ rw told.0 (unheaded (λ first. told.1 (some_same x i (sym (ap first_of is) ∙ first))))
      ]

  -- once all heads are passed, each symbol of a list has what it shall have
  pub done-all : (i s : ℕ) → n ≤ i → (listed s ≡ [] → F s (old s) ≡ old s) → done_below listed F old i s ≡ F s (old s)
  done-all i s le lone = by (listed s) refl
    where
      by : (own : List ℕ) → listed s ≡ own → (if is_passed i own then F s (old s) else old s) ≡ F s (old s)
      by [] is = sym (lone is)
      by (x ∷ xs) is =
          let below : x < n = are.inside s x (subst (λ ys. Contains ys x) (sym is) (here x xs)) in
          let passed : is_passed i (x ∷ xs) ≡ true = grind (arith, nat_tests) in
          ap (λ b. if b then F s (old s) else old s) passed

-- a list of numbers is known by what stands at each place
pub list-is : {X : Type 0} (f : ℕ → X → ℕ) (n : ℕ) (new : List ℕ) (xs : List X) → length new ≡ length xs
    → ((s : ℕ) (x : X) → slice_get xs s ≡ Some x → slice_index new s ≡ f (n + s) x) → new ≡ each_from f n xs
list-is f n [] [] same at = refl
list-is f n [] (y ∷ ys) same at = absurd (omega (arith, same))
list-is f n (x ∷ xs) [] same at = absurd (omega (arith, same))
list-is f n (x ∷ xs) (y ∷ ys) same at =
    let first : n + 0 ≡ n = omega arith in
    let fewer : length xs ≡ length ys = omega (arith, same) in
    ap (λ h. h ∷ xs) (at 0 y refl ∙ ap (λ m. f m y) first)
    ∙ ap (λ rest. f n y ∷ rest)
    (list-is f (n + 1) xs ys fewer (λ s z is. (let next : n + suc s ≡ n + 1 + s = omega arith in at (suc s) z is ∙ ap (λ m. f m z) next)))

-- what stands at a place is read there
pub number-at : (xs : List ℕ) (s x : ℕ) → slice_get xs s ≡ Some x → slice_index xs s ≡ x
number-at [] s x is = cc
number-at (y ∷ ys) zero x is = cc
number-at (y ∷ ys) (suc s) x is = number-at ys s x is
