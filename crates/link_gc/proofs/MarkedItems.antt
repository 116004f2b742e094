-- What marks there are after some more.
use Rattle.std.proofs.Common.{◌≡◌, ◌↔◌, ◌+◌, ◌∙◌, ℕ, ◌⊎◌, ◌++◌, Bool, List, [], ◌∷◌, Option, Some, ◌<◌, length, get_or, take, Contains, inl, inr, ap, subst, sym, arith}
use Rattle.std.proofs.lemmas.List.Elements.{Contains-append_left, Contains-push, Contains-push_cases}
use Rattle.std.proofs.lemmas.List.{take_more}
use Rattle.link_closure.specs.Graph.{IsMarked}

-- the marks are those that were there, and those that come of the items
abbrev pub AreMarked : {X : Type 0} → (X → ℕ → Type 0) → List Bool → List X → List Bool → Type 0
AreMarked {X} Gives old xs new = (n : ℕ) → n < length old → IsMarked new n ↔ (IsMarked old n ⊎ ((x : X) × Contains xs x × Gives x n))

-- of one item more come its marks
pub marked-more : {X : Type 0} (Gives : X → ℕ → Type 0) (old mid new : List Bool) (xs : List X) (x : X) → length mid ≡ length old → AreMarked Gives old xs mid
    → ((n : ℕ) → n < length mid → IsMarked new n ↔ (IsMarked mid n ⊎ Gives x n)) → AreMarked Gives old (xs ++ x ∷ []) new
marked-more {X} Gives old mid new xs x long before step n lt = ((λ is. forth ((step n within).0 is)), (λ is. (step n within).1 (back is)))
  where
    within : n < length mid
    within = omega (arith, lt, long)

    earlier : IsMarked old n ⊎ ((y : X) × Contains xs y × Gives y n) → IsMarked old n ⊎ ((y : X) × Contains (xs ++ x ∷ []) y × Gives y n)
    earlier (inl is) = inl is
    earlier (inr (y, held, gives)) = inr (y, Contains-append_left xs (x ∷ []) y held, gives)

    forth : IsMarked mid n ⊎ Gives x n → IsMarked old n ⊎ ((y : X) × Contains (xs ++ x ∷ []) y × Gives y n)
    forth (inl is) = earlier ((before n lt).0 is)
    forth (inr gives) = inr (x, Contains-push xs x, gives)

    back : IsMarked old n ⊎ ((y : X) × Contains (xs ++ x ∷ []) y × Gives y n) → IsMarked mid n ⊎ Gives x n
    back (inl is) = inl ((before n lt).1 (inl is))
    back (inr (y, held, gives)) = by (Contains-push_cases xs x y held)
      where
        by : Contains xs y ⊎ (x ≡ y) → IsMarked mid n ⊎ Gives x n
        by (inl there) = inl ((before n lt).1 (inr (y, there, gives)))
        by (inr same) = inr (subst (λ z. Gives z n) (sym same) gives)

-- the same at a place of a list
pub marked-next : {X : Type 0} (Gives : X → ℕ → Type 0) (old mid new : List Bool) (xs : List X) (i : ℕ) (x d : X) → i < length xs → x ≡ get_or xs i d → length mid ≡ length old
    → AreMarked Gives old (take i xs) mid → ((n : ℕ) → n < length mid → IsMarked new n ↔ (IsMarked mid n ⊎ Gives x n)) → AreMarked Gives old (take (i + 1) xs) new
marked-next {X} Gives old mid new xs i x d lt is long before step =
    let next : take (i + 1) xs ≡ take i xs ++ x ∷ [] = take_more xs i d lt ∙ ap (λ y. take i xs ++ y ∷ []) (sym is) in
    subst (λ ys. AreMarked Gives old ys new) (sym next) (marked-more Gives old mid new (take i xs) x long before step)

-- the same step by another name of the number
pub marked-by : (mid new : List Bool) (a b : Option ℕ) → a ≡ b → ((n : ℕ) → n < length mid → IsMarked new n ↔ (IsMarked mid n ⊎ (a ≡ Some n)))
    → (n : ℕ) → n < length mid → IsMarked new n ↔ (IsMarked mid n ⊎ (b ≡ Some n))
marked-by mid new a b same step = subst (λ (o : Option ℕ). (n : ℕ) → n < length mid → IsMarked new n ↔ (IsMarked mid n ⊎ (o ≡ Some n))) same step
