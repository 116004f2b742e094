-- Names that are mapped to symbols.
use Rattle.std.proofs.Common.{◌≡◌, ◌<◌, ℕ, List, All, Contains, Option, Some, None, refl}
use Rattle.std.specs.Prelude.{IfSome}
use Rattle.std.proofs.lemmas.List.Elements.{All-contains}
use Rattle.link_rules.specs.Names.{Mapping}
use Rattle.link_rules.specs.Places.{Bytes}

-- each name that is mapped stands in a list of names with symbols, so it is mapped to one of these
pub listed-inside : (mapping : Mapping) (pairs : List (Bytes × ℕ)) (n : ℕ) → ((name : Bytes) (s : ℕ) → mapping name ≡ Some s → Contains pairs (name, s)) → All (λ pair. pair.1 < n) pairs
    → (name : Bytes) → IfSome (mapping name) (λ s. s < n)
listed-inside mapping pairs n complete within name = by (mapping name) refl
  where
    by : (o : Option ℕ) → mapping name ≡ o → IfSome o (λ s. s < n)
    by None is = tt
    by (Some s) is = All-contains (λ (pair : Bytes × ℕ). pair.1 < n) pairs (name, s) within (complete name s is)
