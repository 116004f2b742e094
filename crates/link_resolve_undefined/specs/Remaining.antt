-- Which references stay undefined, by what is known of symbols in columns.
use Rattle.std.specs.Prelude.{ℕ, ◌&&◌, Bool, true, not, List, filter, Option, Some, None, map}
use Rattle.std.specs.List.{enumerate_from}
use Rattle.link_closure.specs.Closure.{is_marked}
use Rattle.link_input.specs.Symbols.{Symbol}
use Rattle.link_rules.specs.Loading.{is_origin_loaded}
use Rattle.link_rules.specs.Undefined.{Numbered, is_weak_symbol}
use Rattle.link_rules.specs.World.{is_reference}
use Rattle.link_db_symbols.specs.Lookups.{target_at}

-- there is no target, or a weak reference has one that no loaded file holds
abbrev pub is_missing_in : List Bool → Symbol → Option ℕ → Bool
is_missing_in held u None = true
is_missing_in held u (Some t) = is_weak_symbol u && not (is_marked held t)

-- a reference of a loaded object stays undefined, where the marks of symbols say which of them loaded files hold
abbrev pub stays_in : List Bool → List Bool → List (Option ℕ) → Numbered → Bool
stays_in marks held targets u = is_reference u.1 && is_origin_loaded marks u.1.origin && is_missing_in held u.1 (target_at targets u.0)

-- whether a loaded file holds each symbol
abbrev pub held_by : List Bool → List Symbol → List Bool
held_by marks symbols = map (λ x. is_origin_loaded marks x.origin) symbols

-- the references that stay undefined among these symbols, the first of which has this id
abbrev pub remaining_from : List Bool → List Bool → List (Option ℕ) → ℕ → List Symbol → List Numbered
remaining_from marks held targets i xs = filter (stays_in marks held targets) (enumerate_from i xs)
