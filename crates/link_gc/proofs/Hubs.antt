-- A group whose members lead to its first one and back is kept as one of which each leads to all.
use Rattle.std.proofs.Common.{◌≡◌, ℕ, Bool, List, [], ◌∷◌, Option, Some, Contains, IsTrue, refl, inl, inr, ◌⊎◌}
use Rattle.link_rules.specs.Places.{first_of}
use Rattle.link_rules.proofs.Settled.{nothing_in}
use Rattle.link_gc.specs.Gathering.{IsHubEdge}

-- a member of a list has a first one
pub has-first : {X : Type 0} (xs : List X) (x : X) → Contains xs x → (y : X) × (first_of xs ≡ Some y)
has-first [] x held = absurd (nothing_in x held)
has-first (y ∷ ys) x held = (y, refl)

-- where each edge of the hub is followed, each member leads to all members and to the header
pub hub-whole : (members : List ℕ) (header : Option ℕ) (holds : ℕ → Bool) → ((n m : ℕ) → IsTrue (holds n) → IsHubEdge members header n m → IsTrue (holds m))
    → (n m : ℕ) → IsTrue (holds n) → Contains members n → (Contains members m ⊎ (header ≡ Some m)) → IsTrue (holds m)
hub-whole members header holds follows n m held member other =
    let hub = has-first members n member in
    let first = follows n hub.0 held (hub.0, hub.1, inl (member, refl)) in
    by hub other first
  where
    by : (hub : (y : ℕ) × (first_of members ≡ Some y)) → (Contains members m ⊎ (header ≡ Some m)) → IsTrue (holds hub.0) → IsTrue (holds m)
    by hub (inl within) first = follows hub.0 m first (hub.0, hub.1, inr (inl (refl, within)))
    by hub (inr is) first = follows hub.0 m first (hub.0, hub.1, inr (inr (refl, is)))
