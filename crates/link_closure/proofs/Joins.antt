-- Numbers under `bit_or`, ordered by which bits they have.
use mathlib.Core.Logic.{dite}
use native.Mathlib.Decide.{ℕ_discrete}
use Rattle.std.proofs.Common.{◌⊎◌, inl, inr, ⊎_elim, ne_eqb, zero, ◌≡◌, ℕ, suc, ◌<◌, List, [], ◌∷◌, ◌++◌, Bool, true, false, sym, refl, ap, ◌∙◌, subst, arith, bit_or, length, get_or, cond, Some}
use Rattle.std.specs.Prelude.{◌==◌, Contains, slice_get}
use Rattle.std.specs.Int.Bits.{or_self, or_zero_l}
use Rattle.std.proofs.lemmas.Nat.{or_comm}
use Rattle.std.proofs.lemmas.Nat.Bits.{bit_at_or, same_from_bits}
use Rattle.std.proofs.lemmas.Bool.Decides.{nat_tests}
use Rattle.link_closure.specs.declared.workload.Mark.{Mark}
use Rattle.link_closure.specs.declared.workload.Item.{Item}
use Rattle.link_closure.specs.Workload.{IsWithin, bits_for, item_bits}

-- joining is associative
pub or_assoc : (a b c : ℕ) → bit_or (bit_or a b) c ≡ bit_or a (bit_or b c)
or_assoc a b c = same_from_bits _ _ (λ i. rw (bit_at_or (bit_or a b) c i, bit_at_or a b i, bit_at_or a (bit_or b c) i, bit_at_or b c i) (omega arith))

-- a number is within itself
pub within_self : (a : ℕ) → IsWithin a a
within_self a = record { joined = or_self a }

-- 0 is within each number
pub within_zero : (a : ℕ) → IsWithin 0 a
within_zero a = record { joined = or_zero_l a }

-- what is within a part is within the whole
pub within_trans : {a b c : ℕ} → IsWithin a b → IsWithin b c → IsWithin a c
within_trans {a} {b} {c} p q = record { joined = ap (bit_or a) (sym q.joined) ∙ sym (or_assoc a b c) ∙ ap (λ n. bit_or n c) p.joined ∙ q.joined }

-- the left part is within a join
pub within_left : (a b : ℕ) → IsWithin a (bit_or a b)
within_left a b = record { joined = sym (or_assoc a a b) ∙ ap (λ n. bit_or n b) (or_self a) }

-- so is the right part
pub within_right : (a b : ℕ) → IsWithin b (bit_or a b)
within_right a b = subst (IsWithin b) (or_comm b a) (within_left b a)

-- a join is within whatever both parts are within
pub within_both : {a b c : ℕ} → IsWithin a c → IsWithin b c → IsWithin (bit_or a b) c
within_both {a} {b} {c} p q = record { joined = or_assoc a b c ∙ ap (bit_or a) q.joined ∙ p.joined }

-- two numbers within each other are equal
pub within_same : {a b : ℕ} → IsWithin a b → IsWithin b a → a ≡ b
within_same {a} {b} p q = sym q.joined ∙ or_comm b a ∙ p.joined

-- ---- elements of a list

module _ {X : Type 0} where
  -- the head is an element
  pub contains_here : (x : X) (xs : List X) → Contains (x ∷ xs) x
  contains_here x xs = (0, omega arith, refl)

  -- an element of the tail is one of the list
  pub contains_later : (x y : X) (xs : List X) → Contains xs y → Contains (x ∷ xs) y
  contains_later x y xs has = (suc has.0, (let h = has.1 in omega arith), has.2)

  -- an element is the head or one of the tail, by its place
  contains_at : (x y : X) (xs : List X) (k : ℕ) → k < length (x ∷ xs) → get_or (x ∷ xs) k y ≡ y → (x ≡ y) ⊎ Contains xs y
  contains_at x y xs zero h e = inl e
  contains_at x y xs (suc k) h e = inr (k, omega arith, e)

  -- an element is the head or one of the tail
  pub contains_cases : (x y : X) (xs : List X) → Contains (x ∷ xs) y → (x ≡ y) ⊎ Contains xs y
  contains_cases x y xs has = contains_at x y xs has.0 has.1 has.2

module _ {X : Type 0} where
  -- an element of the first list is one of both together
  pub contains_left : (y : X) (xs ys : List X) → Contains xs y → Contains (xs ++ ys) y
  contains_left y [] ys has = absurd (let h = has.1 in omega arith)
  contains_left y (x ∷ xs) ys has = ⊎_elim (λ (e : x ≡ y). subst (Contains (x ∷ (xs ++ ys))) e (contains_here x (xs ++ ys))) (λ later. contains_later x y (xs ++ ys) (contains_left y xs ys later)) (contains_cases x y xs has)

  -- so is one of the second
  pub contains_right : (y : X) (xs ys : List X) → Contains ys y → Contains (xs ++ ys) y
  contains_right y [] ys has = has
  contains_right y (x ∷ xs) ys has = contains_later x y (xs ++ ys) (contains_right y xs ys has)

  -- an element of both together is one of the first or of the second
  pub contains_append : (y : X) (xs ys : List X) → Contains (xs ++ ys) y → Contains xs y ⊎ Contains ys y
  contains_append y [] ys has = inr has
  contains_append y (x ∷ xs) ys has =
      ⊎_elim (λ (e : x ≡ y). inl (subst (Contains (x ∷ xs)) e (contains_here x xs)))
      (λ later. ⊎_elim (λ l. inl (contains_later x y xs l)) (λ r. inr r) (contains_append y xs ys later)) (contains_cases x y (xs ++ ys) has)

-- the empty list has no element
pub contains_none : {X : Type 0} {A : Type 0} (y : X) → Contains {X = X} [] y → A
contains_none y has = let h = has.1 in absurd (omega arith)

-- a test is true or false
pub either_way : (b : Bool) → (b ≡ true) ⊎ (b ≡ false)
either_way true = inl refl
either_way false = inr refl

-- ---- the bits of marks

-- the bits of a mark of the symbol count
picked : (n x b : ℕ) → n ≡ x → cond (n == x) b 0 ≡ b
picked n x b e = grind (arith, nat_tests)

-- where they count they are within c
picked_within : (n x b c : ℕ) → (n ≡ x → IsWithin b c) → IsWithin (cond (n == x) b 0) c
picked_within n x b c h = dite (ℕ_discrete n x) (λ e. subst (λ k. IsWithin k c) (sym (picked n x b e)) (h e)) (λ ne. subst (λ t. IsWithin (cond t b 0) c) (sym (ne_eqb n x ne)) (within_zero c))

-- a listed mark's bits are within the symbol's, by its place
bits_at : (x : ℕ) (ms : List Mark) (m : Mark) (k : ℕ) → k < length ms → get_or ms k m ≡ m → m.symbol ≡ x → IsWithin m.bits (bits_for x ms)
bits_at x [] m k h is e = absurd (omega arith)
bits_at x (y ∷ ys) m zero h is e =
    subst (λ (z : Mark). z.symbol ≡ x → IsWithin z.bits (bits_for x (y ∷ ys))) is
    (λ s. subst (λ n. IsWithin n (bits_for x (y ∷ ys))) (picked y.symbol x y.bits s) (within_left (cond (y.symbol == x) y.bits 0) (bits_for x ys))) e
bits_at x (y ∷ ys) m (suc k) h is e = within_trans (bits_at x ys m k (omega arith) is e) (within_right (cond (y.symbol == x) y.bits 0) (bits_for x ys))

-- a listed mark's bits are within the symbol's
pub bits_has : (x : ℕ) (ms : List Mark) (m : Mark) → Contains ms m → m.symbol ≡ x → IsWithin m.bits (bits_for x ms)
bits_has x ms m has e = bits_at x ms m has.0 has.1 has.2 e

-- the symbol's bits are within c, where each listed mark's are
pub bits_within : (x : ℕ) (ms : List Mark) (c : ℕ) → ((m : Mark) → Contains ms m → m.symbol ≡ x → IsWithin m.bits c) → IsWithin (bits_for x ms) c
bits_within x [] c all = within_zero c
bits_within x (m ∷ ms) c all =
    within_both (picked_within m.symbol x m.bits c (all m (contains_here m ms))) (bits_within x ms c (λ k has e. all k (contains_later m k ms has) e))

-- the bits of an item of the files are within the items' bits
pub item_has : (p : ℕ → Bool) (x : ℕ) (its : List Item) (i : ℕ) (it : Item) → slice_get its i ≡ Some it → p it.file ≡ true → IsWithin (bits_for x it.marks) (item_bits p x its)
item_has p x [] i it is so = absurd (cc)
item_has p x (j ∷ js) zero it is so =
    subst (λ (z : Item). p z.file ≡ true → IsWithin (bits_for x z.marks) (item_bits p x (j ∷ js))) (let e : j ≡ it = cc in e)
    (λ s. subst (λ b. IsWithin (cond b (bits_for x j.marks) 0) (item_bits p x (j ∷ js))) s (within_left (cond (p j.file) (bits_for x j.marks) 0) (item_bits p x js))) so
item_has p x (j ∷ js) (suc i) it is so = within_trans (item_has p x js i it is so) (within_right (cond (p j.file) (bits_for x j.marks) 0) (item_bits p x js))

-- where an item counts its bits are within c
chosen : (b : Bool) (n c : ℕ) → (b ≡ true → IsWithin n c) → IsWithin (cond b n 0) c
chosen true n c h = h refl
chosen false n c h = within_zero c

-- the items' bits are within c, where those of each item of the files are
pub item_within : (p : ℕ → Bool) (x : ℕ) (its : List Item) (c : ℕ) → ((i : ℕ) (it : Item) → slice_get its i ≡ Some it → p it.file ≡ true → IsWithin (bits_for x it.marks) c) → IsWithin (item_bits p x its) c
item_within p x [] c all = within_zero c
item_within p x (it ∷ its) c all =
    within_both (chosen (p it.file) (bits_for x it.marks) c (all 0 it refl)) (item_within p x its c (λ i j is so. all (suc i) j is so))
