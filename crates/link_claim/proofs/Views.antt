-- Sums and joins over the views, and what one view keeps while words grow.
use mathlib.Core.Logic.{dite}
use mathlib.Core.Option.{some, some-injective, some-ne-none}
use native.Mathlib.Decide.{ℕ_discrete}
use lib.ListN.{get_elem?}
use Rattle.std.proofs.Common.{◌⊎◌, inl, inr, Contains, ⊎_elim, ne_eqb, eq-eqb, zero, ◌≡◌, ◌≢◌, ℕ, suc, ◌+◌, ◌<◌, ◌≤◌, List, [], ◌∷◌, ◌++◌, sym, refl, ap, ◌∙◌, subst, arith, bit_or, length, get_or, set, cond, get_or-set_same, get_or-set_other}
use Rattle.std.specs.Prelude.{◌==◌}
use Rattle.std.specs.Int.Bits.{or_zero_l, or_zero_r}
use Rattle.std.proofs.lemmas.Nat.{or_comm}
use Rattle.atomic_table.proofs.Lists.{at_set, set_here, set_else}
use Rattle.link_closure.specs.declared.workload.Mark.{Mark}
use Rattle.link_closure.specs.declared.workload.Workload.{Workload}
use Rattle.link_claim.specs.declared.view.View.{View}
use Rattle.link_claim.specs.declared.view.Written.{Written}
use Rattle.link_closure.specs.Workload.{bits_for, IsWithin}
use Rattle.link_claim.specs.Workload.{begin_base, flag_base}
use Rattle.link_claim.specs.Rule.{times, times_new, total, all_bits, Counts, Fits}
use Rattle.link_closure.proofs.Joins.{contains_here, contains_later, or_assoc, within_zero, within_trans, within_left, within_right, within_both, within_same}
use Rattle.link_claim.proofs.Kept.{item_index}

-- a view has an index below the number of views
pub index_of : (vs : List View) (id : ℕ) (v : View) → get_elem? vs id ≡ some v → id < length vs
index_of [] id v at = absurd (some-ne-none v (sym at))
index_of (x ∷ xs) zero v at = omega arith
index_of (x ∷ xs) (suc id) v at = let r = index_of xs id v at in omega arith

-- a sum over all views after one of them changes
pub total_set : (f : View → ℕ) (vs : List View) (id : ℕ) (v u : View) → get_elem? vs id ≡ some v → total f (set vs id u) + f v ≡ total f vs + f u
total_set f [] id v u at = absurd (some-ne-none v (sym at))
total_set f (x ∷ xs) zero v u at = let e : f x ≡ f v = ap f (some-injective x v at) in omega arith
total_set f (x ∷ xs) (suc id) v u at = let r = total_set f xs id v u at in omega arith

-- a sum over all views stays, where what changes counts the same
pub total_same : (f : View → ℕ) (vs : List View) (id : ℕ) (v u : View) → get_elem? vs id ≡ some v → f u ≡ f v → total f (set vs id u) ≡ total f vs
total_same f vs id v u at e = let r = total_set f vs id v u at in omega arith

-- a sum over all views and a new one
pub total_snoc : (f : View → ℕ) (vs : List View) (v : View) → total f (vs ++ v ∷ []) ≡ total f vs + f v
total_snoc f [] v = omega arith
total_snoc f (x ∷ xs) v = let r = total_snoc f xs v in omega arith

-- two joins can change places
or_swap : (a b c : ℕ) → bit_or (bit_or a b) c ≡ bit_or (bit_or a c) b
or_swap a b c = or_assoc a b c ∙ ap (bit_or a) (or_comm b c) ∙ sym (or_assoc a c b)

-- one view lists more bits
pub all_bits_set : (x b : ℕ) (vs : List View) (id : ℕ) (v u : View) → get_elem? vs id ≡ some v → bits_for x u.marks ≡ bit_or (bits_for x v.marks) b → all_bits x (set vs id u) ≡ bit_or (all_bits x vs) b
all_bits_set x b [] id v u at e = absurd (some-ne-none v (sym at))
all_bits_set x b (y ∷ ys) zero v u at e =
    ap (λ n. bit_or n (all_bits x ys)) (e ∙ ap (λ (z : View). bit_or (bits_for x z.marks) b) (sym (some-injective y v at))) ∙ or_swap (bits_for x y.marks) b (all_bits x ys)
all_bits_set x b (y ∷ ys) (suc id) v u at e = ap (bit_or (bits_for x y.marks)) (all_bits_set x b ys id v u at e) ∙ sym (or_assoc (bits_for x y.marks) (all_bits x ys) b)

-- where a view lists the same marks no listed bit changes
pub all_bits_same : (x : ℕ) (vs : List View) (id : ℕ) (v u : View) → get_elem? vs id ≡ some v → u.marks ≡ v.marks → all_bits x (set vs id u) ≡ all_bits x vs
all_bits_same x vs id v u at e = all_bits_set x 0 vs id v u at (ap (bits_for x) e ∙ sym (or_zero_r _)) ∙ or_zero_r _

-- ---- the counted words

-- one more k in the list
times_here : (k : ℕ) (xs : List ℕ) (j : ℕ) → j ≡ k → times j (k ∷ xs) ≡ 1 + times j xs
times_here k xs j e = ap (λ b. cond b 1 0 + times j xs) (eq-eqb k j (sym e))

-- one more of another number
times_else : (k : ℕ) (xs : List ℕ) (j : ℕ) → j ≢ k → times j (k ∷ xs) ≡ times j xs
times_else k xs j ne = ap (λ b. cond b 1 0 + times j xs) (ne_eqb k j (λ e. ne (sym e))) ∙ omega arith

module _ (base count : ℕ) (list : View → List ℕ) (words : List ℕ) (views : List View) (counted : Counts base count list words views) (id : ℕ) (v u : View) (at : get_elem? views id ≡ some v) where
  -- another word changes, and the list stays
  pub counts_same : (j n : ℕ) → list u ≡ list v → ((k : ℕ) → k < count → base + k ≢ j) → Counts base count list (set words j n) (set views id u)
  counts_same j n same apart k h =
      let sum = total_set (λ (z : View). times k (list z)) views id v u at in
      let e : times k (list u) ≡ times k (list v) = ap (times k) same in
      let w = get_or-set_other words j (base + k) n 0 (apart k h) in
      let was = counted k h in (omega arith, omega arith)

  -- the word of k goes from 0 to 1, and the list has k once more
  pub counts_won : (k : ℕ) → list u ≡ k ∷ list v → base + k < length words → get_or words (base + k) 0 ≡ 0 → Counts base count list (set words (base + k) 1) (set views id u)
  counts_won k more within free j h =
      let sum = total_set (λ (z : View). times j (list z)) views id v u at in
      let was = counted j h in
      dite (ℕ_discrete j k)
      (λ (e : j ≡ k).
      let now : get_or (set words (base + k) 1) (base + j) 0 ≡ 1 = subst (λ i. get_or (set words (base + k) 1) (base + i) 0 ≡ 1) (sym e) (get_or-set_same words (base + k) 1 0 within) in
      let before : get_or words (base + j) 0 ≡ 0 = subst (λ i. get_or words (base + i) 0 ≡ 0) (sym e) free in
      let t : times j (list u) ≡ 1 + times j (list v) = ap (times j) more ∙ times_here k (list v) j e in (omega arith, omega arith))
      (λ (ne : j ≢ k).
      let now = get_or-set_other words (base + k) (base + j) 1 0 (λ e. ne (omega arith)) in
      let t : times j (list u) ≡ times j (list v) = ap (times j) more ∙ times_else k (list v) j ne in (omega arith, omega arith))

-- ---- words that grow

-- below lim, a word that is 1 stays 1
pub Grows : ℕ → List ℕ → List ℕ → Type 0
Grows lim old new = (k : ℕ) → k < lim → get_or old k 0 ≡ 1 → get_or new k 0 ≡ 1

-- a word that becomes 1 leaves each 1 a 1
pub grows_one : (lim : ℕ) (words : List ℕ) (j : ℕ) → j < length words → Grows lim words (set words j 1)
unfolding Grows
grows_one lim words j h k lt one = dite (ℕ_discrete k j) (λ e. subst (λ i. get_or (set words j 1) i 0 ≡ 1) (sym e) (get_or-set_same words j 1 0 h)) (λ ne. get_or-set_other words j k 1 0 ne ∙ one)

-- a change at or above the limit leaves all below it
pub grows_above : (lim : ℕ) (words : List ℕ) (j n : ℕ) → lim ≤ j → Grows lim words (set words j n)
unfolding Grows
grows_above lim words j n h k lt one = get_or-set_other words j k n 0 (λ e. omega arith) ∙ one

-- a view still fits where claim and begin words only grow
pub fits_grown : (w : Workload) (old new : List ℕ) (v : View) → Fits w old v → Grows (flag_base w) old new → Fits w new v
unfolding Grows
fits_grown w old new v fit grows = record {
  same = fit.same;
  spent = fit.spent;
  known = λ f has. let k = fit.known f has in let lt = k.0 in (k.0, grows (1 + f) (omega arith) k.1, k.2);
  claims = fit.claims;
  items = λ i has. let k = fit.items i has in let lt = item_index w.items i k.1.0 k.1.1 in (grows (begin_base w + i) (omega arith) k.0, k.1);
  begins = fit.begins;
  marks = fit.marks;
  missed = fit.missed;
  writes = fit.writes;
}

-- each view fits where the new one does
pub fits_set : (w : Workload) (words : List ℕ) (views : List View) (id : ℕ) (new : View) → ((j : ℕ) (u : View) → get_elem? views j ≡ some u → Fits w words u) → Fits w words new
    → (j : ℕ) (u : View) → get_elem? (set views id new) j ≡ some u → Fits w words u
fits_set w words views id new others mine j u e =
    ⊎_elim (λ (x : (j ≡ id) × (new ≡ u)). subst (Fits w words) x.1 mine) (λ (x : (j ≢ id) × (get_elem? views j ≡ some u)). others j u x.1) (at_set views id j new u e)

-- ---- the bits of all views

-- the bits that one view lists are within those of all
pub all_bits_has : (x : ℕ) (vs : List View) (id : ℕ) (v : View) → get_elem? vs id ≡ some v → IsWithin (bits_for x v.marks) (all_bits x vs)
all_bits_has x [] id v at = absurd (some-ne-none v (sym at))
all_bits_has x (y ∷ ys) zero v at = subst (λ (z : View). IsWithin (bits_for x z.marks) (all_bits x (y ∷ ys))) (some-injective y v at) (within_left (bits_for x y.marks) (all_bits x ys))
all_bits_has x (y ∷ ys) (suc id) v at = within_trans (all_bits_has x ys id v at) (within_right (bits_for x y.marks) (all_bits x ys))

-- the bits of all views are within c, where those of each view are
pub all_bits_within : (x : ℕ) (vs : List View) (c : ℕ) → ((id : ℕ) (v : View) → get_elem? vs id ≡ some v → IsWithin (bits_for x v.marks) c) → IsWithin (all_bits x vs) c
all_bits_within x [] c all = within_zero c
all_bits_within x (y ∷ ys) c all = within_both (all 0 y refl) (all_bits_within x ys c (λ id v at. all (suc id) v at))

-- a new view that lists nothing adds no bit
pub all_bits_snoc : (x : ℕ) (vs : List View) (v : View) → v.marks ≡ [] → all_bits x (vs ++ v ∷ []) ≡ all_bits x vs
all_bits_snoc x [] v e = ap (λ ms. bit_or (bits_for x ms) 0) e
all_bits_snoc x (y ∷ ys) v e = ap (bit_or (bits_for x y.marks)) (all_bits_snoc x ys v e)

-- the bits of two lists of marks are those of both joined
bits_append : (x : ℕ) (ms ns : List Mark) → bits_for x (ms ++ ns) ≡ bit_or (bits_for x ms) (bits_for x ns)
bits_append x [] ns = sym (or_zero_l (bits_for x ns))
bits_append x (m ∷ ms) ns = ap (bit_or (cond (m.symbol == x) m.bits 0)) (bits_append x ms ns) ∙ sym (or_assoc (cond (m.symbol == x) m.bits 0) (bits_for x ms) (bits_for x ns))

-- how often k stands in two lists
pub times_append : (k : ℕ) (xs ys : List ℕ) → times k (xs ++ ys) ≡ times k xs + times k ys
times_append k [] ys = omega arith
times_append k (x ∷ xs) ys = let r = times_append k xs ys in omega arith

-- how often a bit was written where it was missing, by two lists
pub times_new_append : (x k : ℕ) (js is : List Written) → times_new x k (js ++ is) ≡ times_new x k js + times_new x k is
times_new_append x k [] is = omega arith
times_new_append x k (j ∷ js) is = let r = times_new_append x k js is in omega arith

-- ---- two views are made one

module _ (views : List View) (id other : ℕ) (v u both spent : View) (at : get_elem? views id ≡ some v) (there : get_elem? views other ≡ some u) (apart : other ≢ id) where
  -- the other view stays where it is
  there_still : get_elem? (set views id both) other ≡ some u
  there_still = set_else views id other both apart ∙ there

  -- a sum over all views stays, where one view takes over what the other had
  pub total_joined : (f : View → ℕ) → f both ≡ f v + f u → f spent ≡ 0 → total f (set (set views id both) other spent) ≡ total f views
  total_joined f sum spent_zero = let a = total_set f views id v both at in let b = total_set f (set views id both) other u spent there_still in omega arith

  -- and so do the bits of all views
  pub all_bits_joined : (x : ℕ) → both.marks ≡ v.marks ++ u.marks → spent.marks ≡ [] → all_bits x (set (set views id both) other spent) ≡ all_bits x views
  all_bits_joined x sum spent_none =
      let is : bits_for x both.marks ≡ bit_or (bits_for x v.marks) (bits_for x u.marks) = ap (bits_for x) sum ∙ bits_append x v.marks u.marks in
      let now : List View = set (set views id both) other spent in
      let here : get_elem? now id ≡ some both = set_else (set views id both) other id spent (λ e. apart (sym e)) ∙ set_here views id both (index_of views id v at) in
      within_same
      (all_bits_within x now (all_bits x views) (λ j z e. ⊎_elim
      (λ (t : (j ≡ other) × (spent ≡ z)). subst (λ ms. IsWithin (bits_for x ms) (all_bits x views)) (sym spent_none ∙ ap (λ (k : View). k.marks) t.1) (within_zero (all_bits x views)))
      (λ (t : (j ≢ other) × (get_elem? (set views id both) j ≡ some z)). ⊎_elim
      (λ (r : (j ≡ id) × (both ≡ z)). subst (λ n. IsWithin n (all_bits x views)) (sym is ∙ ap (λ (k : View). bits_for x k.marks) r.1) (within_both (all_bits_has x views id v at) (all_bits_has x views other u there)))
      (λ (r : (j ≢ id) × (get_elem? views j ≡ some z)). all_bits_has x views j z r.1)
      (at_set views id j both z t.1))
      (at_set (set views id both) other j spent z e)))
      (all_bits_within x views (all_bits x now) (λ j z e. dite (ℕ_discrete j id)
      (λ same_id. let z_is : v ≡ z = some-injective v z (sym at ∙ subst (λ k. get_elem? views k ≡ some z) same_id e) in
      subst (λ (k : View). IsWithin (bits_for x k.marks) (all_bits x now)) z_is (within_trans (subst (IsWithin (bits_for x v.marks)) (sym is) (within_left (bits_for x v.marks) (bits_for x u.marks))) (all_bits_has x now id both here)))
      (λ not_id. dite (ℕ_discrete j other)
      (λ same_other. let z_is : u ≡ z = some-injective u z (sym there ∙ subst (λ k. get_elem? views k ≡ some z) same_other e) in
      subst (λ (k : View). IsWithin (bits_for x k.marks) (all_bits x now)) z_is (within_trans (subst (IsWithin (bits_for x u.marks)) (sym is) (within_right (bits_for x v.marks) (bits_for x u.marks))) (all_bits_has x now id both here)))
      (λ not_other. all_bits_has x now j z (set_else (set views id both) other j spent not_other ∙ set_else views id j both not_id ∙ e)))))

-- ---- who listed it

-- a number is positive or 0
some_or_none : (n : ℕ) → (0 < n) ⊎ (n ≡ 0)
some_or_none zero = inr refl
some_or_none (suc n) = inl (omega arith)

-- what stands in a list is one of its elements
pub times_some : (k : ℕ) (xs : List ℕ) → 0 < times k xs → Contains xs k
times_some k [] h = absurd (omega arith)
times_some k (x ∷ xs) h =
    dite (ℕ_discrete x k) (λ (e : x ≡ k). subst (Contains (x ∷ xs)) e (contains_here x xs))
    (λ (ne : x ≢ k). let same = times_else x xs k (λ e. ne (sym e)) in contains_later x k xs (times_some k xs (omega arith)))

-- where a sum is positive some view counts in it
pub total_some : (f : View → ℕ) (vs : List View) → 0 < total f vs → (id : ℕ) × (v : View) × (get_elem? vs id ≡ some v) × (0 < f v)
total_some f [] h = absurd (omega arith)
total_some f (x ∷ xs) h = ⊎_elim (λ (t : 0 < f x). (0, x, refl, t)) (λ (t : f x ≡ 0). let r = total_some f xs (omega arith) in (suc r.0, r.1, r.2, r.3)) (some_or_none (f x))
