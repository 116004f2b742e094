-- Which definition of a name counts.
use Rattle.std.specs.Prelude.{ℕ, Bool, true, false, nat_le, List, find, Option, Some, None, option_map, if◌then◌else◌}
use Rattle.std.specs.List.{filter_map, list_all}
use Rattle.std.specs.Option.{option_or}
use Rattle.link_flags.specs.declared.strength.SymbolStrength.{SymbolStrength}
use Rattle.link_flags.specs.declared.strength.SymbolStrength.TheVariants.{Weak, GnuUnique, Strong, Common}

-- a symbol with its strength
abbrev pub Candidate : Type 0
Candidate = ℕ × SymbolStrength

abbrev pub is_strong : SymbolStrength → Bool
is_strong Strong = true
is_strong _ = false

-- weak, or unique in the process
abbrev pub is_weak : SymbolStrength → Bool
is_weak Weak = true
is_weak GnuUnique = true
is_weak _ = false

-- a tentative definition with its size
abbrev pub common_of : Candidate → Option (ℕ × ℕ)
common_of (id, Common size) = Some (id, size)
common_of (id, _) = None

-- the first strong definition
abbrev pub first_strong : List Candidate → Option ℕ
first_strong xs = option_map (λ c. c.0) (find (λ c. is_strong c.1) xs)

-- the first weak one
abbrev pub first_weak : List Candidate → Option ℕ
first_weak xs = option_map (λ c. c.0) (find (λ c. is_weak c.1) xs)

-- no size of the list is larger
abbrev pub is_largest : List (ℕ × ℕ) → ℕ × ℕ → Bool
is_largest commons c = list_all (λ d. nat_le d.1 c.1) commons

-- the largest tentative one, the first of equals
abbrev pub largest_common : List Candidate → Option ℕ
largest_common xs = let commons = filter_map common_of xs in option_map (λ c. c.0) (find (is_largest commons) commons)

-- the first strong definition, else the largest tentative one, else the first weak one; on some platforms the weak one comes before the tentative one
abbrev pub pick : Bool → List Candidate → Option ℕ
pick weak_over_common xs =
    let weak = first_weak xs in
    let common = largest_common xs in
    option_or (first_strong xs) (if weak_over_common then option_or weak common else option_or common weak)
