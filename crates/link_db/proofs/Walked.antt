-- A walk over names from the first on.
use Rattle.std.proofs.Common.{◌≡◌, ◌+◌, ℕ, zero, suc, Bool, true, false, List, [], ◌∷◌, drop, Some, refl, subst, if◌then◌else◌}
use Rattle.std.specs.Prelude.{slice_get}
use Rattle.std.proofs.lemmas.Option.{same_Some}
use Rattle.link_rules.specs.Places.{first_of, kept_if, places_from}

-- whether the next element is the first that passes
pub next-first : {A : Type 0} (p : A → Bool) (xs : List A) (k m : ℕ) (x : A) → slice_get xs k ≡ Some x
    → first_of (places_from p m (drop k xs)) ≡ (if p x then Some m else first_of (places_from p (m + 1) (drop (suc k) xs)))
next-first p [] k m x is = cc
next-first p (y ∷ xs) zero m x is =
    let e : y ≡ x = same_Some y x is in
    subst (λ z. first_of (kept_if (p y) m (places_from p (m + 1) xs)) ≡ (if p z then Some m else first_of (places_from p (m + 1) xs))) e (here (p y))
  where
    here : (b : Bool) → first_of (kept_if b m (places_from p (m + 1) xs)) ≡ (if b then Some m else first_of (places_from p (m + 1) xs))
    here true = refl
    here false = refl
next-first p (y ∷ xs) (suc k) m x is = next-first p xs k m x is
