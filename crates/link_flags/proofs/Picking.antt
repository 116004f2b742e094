-- What is picked of what a selector knows is what is picked of the list.
use Rattle.std.proofs.Common.{◌≡◌, ◌∙◌, ◌≤◌, ℕ, Bool, true, false, cond, List, [], ◌∷◌, fold, find, nat_le, Option, Some, None, refl, sym, ap, arith}
use Rattle.std.specs.Prelude.{◌&&◌}
use Rattle.std.specs.List.{filter_map, list_all}
use Rattle.std.specs.Option.{option_or}
use Rattle.std.proofs.lemmas.Bool.{le-leb, leb-true, leb-false}
use Rattle.link_flags.specs.declared.strength.SymbolStrength.TheVariants.{Undefined, Weak, GnuUnique, Strong, Common}
use Rattle.link_flags.specs.declared.selector.SymbolPrioritySelector.{SymbolPrioritySelector}
use Rattle.link_flags.specs.Pick.{Candidate, common_of, first_strong, first_weak, is_largest, pick}
use Rattle.link_flags.specs.Selector.{after, considered, larger, nothing, selected}

or-none : {A : Type 0} (o : Option A) → option_or o None ≡ o
or-none None = refl
or-none (Some x) = refl

or-some : {A : Type 0} (o p : Option A) (x : A) → option_or (option_or o (Some x)) p ≡ option_or o (Some x)
or-some None p x = refl
or-some (Some y) p x = refl

-- the strong one that is known after a list
pub strong-after : (s : SymbolPrioritySelector) (xs : List Candidate) → (fold after s xs).strong ≡ option_or s.strong (first_strong xs)
strong-after s [] = sym (or-none s.strong)
strong-after s ((id, Undefined) ∷ xs) = strong-after s xs
strong-after s ((id, Weak) ∷ xs) = strong-after (after s (id, Weak)) xs
strong-after s ((id, GnuUnique) ∷ xs) = strong-after (after s (id, GnuUnique)) xs
strong-after s ((id, Strong) ∷ xs) = strong-after (after s (id, Strong)) xs ∙ or-some s.strong (first_strong xs) id
strong-after s ((id, Common n) ∷ xs) = strong-after (after s (id, Common n)) xs

-- the weak one
pub weak-after : (s : SymbolPrioritySelector) (xs : List Candidate) → (fold after s xs).weak ≡ option_or s.weak (first_weak xs)
weak-after s [] = sym (or-none s.weak)
weak-after s ((id, Undefined) ∷ xs) = weak-after s xs
weak-after s ((id, Weak) ∷ xs) = weak-after (after s (id, Weak)) xs ∙ or-some s.weak (first_weak xs) id
weak-after s ((id, GnuUnique) ∷ xs) = weak-after (after s (id, GnuUnique)) xs ∙ or-some s.weak (first_weak xs) id
weak-after s ((id, Strong) ∷ xs) = weak-after (after s (id, Strong)) xs
weak-after s ((id, Common n) ∷ xs) = weak-after (after s (id, Common n)) xs

-- the tentative one, by the larger of two at each step
pub common-after : (s : SymbolPrioritySelector) (xs : List Candidate) → (fold after s xs).common ≡ fold larger s.common (filter_map common_of xs)
common-after s [] = refl
common-after s ((id, Undefined) ∷ xs) = common-after s xs
common-after s ((id, Weak) ∷ xs) = common-after (after s (id, Weak)) xs
common-after s ((id, GnuUnique) ∷ xs) = common-after (after s (id, GnuUnique)) xs
common-after s ((id, Strong) ∷ xs) = common-after (after s (id, Strong)) xs
common-after s ((id, Common n) ∷ xs) = common-after (after s (id, Common n)) xs

-- tests that agree find the same
find-alike : {A : Type 0} (p q : A → Bool) → ((x : A) → p x ≡ q x) → (xs : List A) → find p xs ≡ find q xs
find-alike p q e [] = refl
find-alike p q e (x ∷ xs) = rw (e x, find-alike p q e xs) refl

-- one test more that a later one covers
covered-first : (a b c : Bool) → (b ≡ true → a ≡ true) → a && (b && c) ≡ b && c
covered-first true b c h = refl
covered-first false true c h = absurd (cc (h refl))
covered-first false false c h = refl

-- one that an earlier one covers
covered-second : (a b c : Bool) → (a ≡ true → b ≡ true) → a && (b && c) ≡ a && c
covered-second true true c h = refl
covered-second true false c h = absurd (cc (h refl))
covered-second false b c h = refl

and-first : (a b : Bool) → a && b ≡ true → a ≡ true
and-first true b h = refl
and-first false b h = h

not-first : (a b : Bool) → a ≡ false → a && b ≡ false
not-first a b e = rw e refl

-- a second choice that only stands where the first one does changes nothing
second-covered : {A : Type 0} (b d : Bool) (x y z : A) → (d ≡ true → b ≡ true) → cond b x z ≡ cond b x (cond d y z)
second-covered true d x y z h = refl
second-covered false true x y z h = absurd (cc (h refl))
second-covered false false x y z h = refl

le-through : (m n k : ℕ) → m ≤ n → nat_le n k ≡ true → nat_le m k ≡ true
le-through m n k h e = le-leb m k (omega (arith, h, leb-true n k e))

-- the first of the largest, where the second is no larger than the first
keep-first : (q p : ℕ × ℕ) (cs : List (ℕ × ℕ)) → nat_le p.1 q.1 ≡ true → find (is_largest (q ∷ cs)) (q ∷ cs) ≡ find (is_largest (q ∷ p ∷ cs)) (q ∷ p ∷ cs)
keep-first q p cs le =
    let below : p.1 ≤ q.1 = leb-true p.1 q.1 le in
    let alike = λ (c : ℕ × ℕ). covered-second (nat_le q.1 c.1) (nat_le p.1 c.1) (list_all (λ d. nat_le d.1 c.1) cs) (le-through p.1 q.1 c.1 below) in
    let equal : is_largest (q ∷ cs) p ≡ true → q.1 ≡ p.1 = λ h. omega (arith, below, leb-true q.1 p.1 (and-first (nat_le q.1 p.1) (list_all (λ d. nat_le d.1 p.1) cs) h)) in
    let covered : is_largest (q ∷ cs) p ≡ true → is_largest (q ∷ cs) q ≡ true = λ h. ap (λ n. is_largest (q ∷ cs) (0, n)) (equal h) ∙ h in
    second-covered (is_largest (q ∷ cs) q) (is_largest (q ∷ cs) p) (Some q) (Some p) (find (is_largest (q ∷ cs)) cs) covered
    ∙ sym (find-alike (is_largest (q ∷ p ∷ cs)) (is_largest (q ∷ cs)) alike (q ∷ p ∷ cs))

-- and where it is larger
take-second : (q p : ℕ × ℕ) (cs : List (ℕ × ℕ)) → nat_le p.1 q.1 ≡ false → find (is_largest (p ∷ cs)) (p ∷ cs) ≡ find (is_largest (q ∷ p ∷ cs)) (q ∷ p ∷ cs)
take-second q p cs gt =
    let below : q.1 ≤ p.1 = omega (arith, leb-false p.1 q.1 gt) in
    let alike = λ (c : ℕ × ℕ). covered-first (nat_le q.1 c.1) (nat_le p.1 c.1) (list_all (λ d. nat_le d.1 c.1) cs) (le-through q.1 p.1 c.1 below) in
    let none : is_largest (p ∷ cs) q ≡ false = not-first (nat_le p.1 q.1) (list_all (λ d. nat_le d.1 q.1) cs) gt in
    sym (ap (λ b. cond b (Some q) (find (is_largest (p ∷ cs)) (p ∷ cs))) none)
    ∙ sym (find-alike (is_largest (q ∷ p ∷ cs)) (is_largest (p ∷ cs)) alike (q ∷ p ∷ cs))

-- by both
either : (q p : ℕ × ℕ) (cs : List (ℕ × ℕ)) (b : Bool) → nat_le p.1 q.1 ≡ b → fold larger (Some q) cs ≡ find (is_largest (q ∷ cs)) (q ∷ cs) → fold larger (Some p) cs ≡ find (is_largest (p ∷ cs)) (p ∷ cs) → fold larger (cond b (Some q) (Some p)) cs ≡ find (is_largest (q ∷ p ∷ cs)) (q ∷ p ∷ cs)
either q p cs true e first second = first ∙ keep-first q p cs e
either q p cs false e first second = second ∙ take-second q p cs e

-- the larger of two at each step is the first that no other exceeds
largest-from : (q : ℕ × ℕ) (cs : List (ℕ × ℕ)) → fold larger (Some q) cs ≡ find (is_largest (q ∷ cs)) (q ∷ cs)
largest-from q [] = rw (le-leb q.1 q.1 (omega arith)) refl
largest-from q (p ∷ cs) = either q p cs (nat_le p.1 q.1) refl (largest-from q cs) (largest-from p cs)

pub largest-is : (cs : List (ℕ × ℕ)) → fold larger None cs ≡ find (is_largest cs) cs
largest-is [] = refl
largest-is (p ∷ cs) = largest-from p cs

-- what is selected after a list is what is picked of it
pub selected-considered : (w : Bool) (xs : List Candidate) → selected w (considered xs) ≡ pick w xs
selected-considered w xs = rw (strong-after nothing xs, weak-after nothing xs, common-after nothing xs, largest-is (filter_map common_of xs)) refl
