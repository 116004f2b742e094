-- The first entries of a list that have a key.
use Rattle.std.specs.Prelude.{ℕ, List, Option, Some, None, if◌then◌else◌}
use Rattle.std.specs.Option.{option_or}
use Rattle.link_rules.specs.Places.{first_of, is_number, places_from}

-- the place of the first entry that has the key f, if one has
abbrev pub first_place : List (Option ℕ) → ℕ → Option ℕ
first_place keys f = first_of (places_from (λ k. is_number k f) 0 keys)

-- the same, where an entry with this key stands at a place behind
abbrev pub noted : Option ℕ → Option ℕ → ℕ → ℕ → Option ℕ
noted first key place f = option_or first (if is_number key f then Some place else None)
