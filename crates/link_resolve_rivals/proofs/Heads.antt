-- The list that begins with a symbol.
use Rattle.std.proofs.Common.{rules, ◌≡◌, ◌∙◌, ◌<◌, ◌&&◌, ℕ, true, false, List, [], ◌∷◌, All, Contains, refl, sym, ap, subst, inl, inr, arith, length}
use Rattle.std.specs.Prelude.{◌==◌}
use Rattle.std.proofs.lemmas.Bool.Decides.{eqb_tells}
use Rattle.std.proofs.lemmas.List.Elements.{All-contains_itself, All-tail, All-weaker}
use Rattle.link_rules.specs.Places.{are_several, behind_head, first_of, is_number}
use Rattle.link_resolve_rivals.specs.Lists.{AreLists}

-- a number is itself
pub same-number : (n : ℕ) → (n == n) ≡ true
same-number n = search rules

-- where symbols stand behind the head, the list is the head with these
pub list-of-head : (s : ℕ) (own later : List ℕ) → later ≡ behind_head s own → 0 < length later → own ≡ s ∷ later
list-of-head s [] later is some = absurd (omega (arith, ap length is))
list-of-head s (x ∷ xs) later is some = elim (eqb_tells x s) [
  | inl told ↦ let rest : later ≡ xs = rw told.0 at is in ap (λ h. h ∷ xs) told.1 ∙ ap (λ ys. s ∷ ys) (sym rest)
  | inr told ↦ let none : later ≡ [] = rw told.0 at is in absurd (omega (arith, ap length none))
]

-- where none stands behind it, no list begins with it, or one of one symbol
pub list-of-one : (s : ℕ) (own later : List ℕ) → later ≡ behind_head s own → length later ≡ 0 → (is_number (first_of own) s && are_several own) ≡ false
list-of-one s [] later is none = refl
list-of-one s (x ∷ []) later is none = elim (eqb_tells x s) [ inl told ↦ rw told.0 refl | inr told ↦ rw told.0 refl ]
list-of-one s (x ∷ y ∷ ys) later is none = elim (eqb_tells x s) [
  | inl told ↦ let rest : later ≡ y ∷ ys = rw told.0 at is in absurd (omega (arith, ap length rest))
  | inr told ↦ rw told.0 refl
]

-- the symbols of a list are below the count
pub list-inside : (listed : ℕ → List ℕ) (n s : ℕ) → AreLists listed n → All (λ t. t < n) (listed s)
list-inside listed n s are = All-weaker (Contains (listed s)) (λ t. t < n) (λ t within. are.inside s t within) (listed s) (All-contains_itself (listed s))

-- those behind the head are
pub later-inside : (listed : ℕ → List ℕ) (n s : ℕ) (later : List ℕ) → AreLists listed n → later ≡ behind_head s (listed s) → 0 < length later → All (λ t. t < n) later
later-inside listed n s later are is some =
    let own : listed s ≡ s ∷ later = list-of-head s (listed s) later is some in
    All-tail (λ (t : ℕ). t < n) s later (subst (λ xs. All (λ t. t < n) xs) own (list-inside listed n s are))
