-- The tests of claimed objects, over plain columns.
use Rattle.std.specs.Prelude.{ℕ, ◌+◌, ◌&&◌, ◌||◌, ◌==◌, List, [], ◌∷◌, Bool, true, false, not, Option, None, Some, is_some, nat_lt, find, option_map, option_and_then}
use Rattle.std.specs.List.{list_all}
use Rattle.std.specs.Option.{option_map_or}
use Rattle.link_closure.specs.Closure.{is_marked}
use Rattle.link_input.specs.Symbols.{Symbol, object_in}
use Rattle.link_rules.specs.Places.{is_number}
use Rattle.link_check_claims.specs.declared.claim.ClaimedObject.{ClaimedObject}
use Rattle.link_check_targets.specs.Tables.{object_at, target_at}

-- greater than the one before, if there is one
abbrev pub is_above : Option ℕ → ℕ → Bool
is_above None n = true
is_above (Some m) n = nat_lt m n

-- the places of the objects rise, from behind this one
abbrev pub rises_from : Option ℕ → List ClaimedObject → Bool
rises_from last [] = true
rises_from last (o ∷ os) = is_above last o.object && rises_from (Some o.object) os

-- what ranks objects are claimed with
abbrev pub Ranks : Type 0
Ranks = ℕ → Option ℕ

-- the rank that an object is claimed with, if it is claimed
abbrev pub rank_in : List ClaimedObject → Ranks
rank_in loaded f = option_map (λ o. o.rank) (find (λ o. o.object == f) loaded)

-- there is a smaller rank
abbrev pub is_below : Option ℕ → ℕ → Bool
is_below None rank = false
is_below (Some r) rank = nat_lt r rank

-- the reference of this id stands in a claimed object of a smaller rank, and asks for f
abbrev pub refers : Ranks → List Symbol → List (Option ℕ) → ℕ → ℕ → ℕ → Bool
refers ranks symbols requests f rank s = is_below (option_and_then ranks (object_at symbols s)) rank && is_number (target_at requests s) f

-- the reason of a claimed object is one
abbrev pub is_grounded : Ranks → List Symbol → List (Option ℕ) → List Bool → ClaimedObject → Bool
is_grounded ranks symbols requests roots o = option_map_or (refers ranks symbols requests o.object o.rank) o.by (is_marked roots o.object)

-- a test passes at each place, from the first on
abbrev pub all_from : {X : Type 0} → (ℕ → X → Bool) → ℕ → List X → Bool
all_from p n [] = true
all_from p n (x ∷ xs) = p n x && all_from p (n + 1) xs

-- where the object at this place is a root, it is claimed
abbrev pub keeps_root : Ranks → ℕ → Bool → Bool
keeps_root ranks f is_root = not is_root || is_some (ranks f)

-- where the object of a symbol is claimed, what the symbol asks for is claimed
abbrev pub keeps_request : Ranks → List (Option ℕ) → ℕ → Symbol → Bool
keeps_request ranks requests s u =
    option_map_or (λ f. not (is_some (ranks f)) || option_map_or (λ g. is_some (ranks g)) (target_at requests s) true) (object_in u.origin) true

-- roots are claimed, and what claimed objects ask for
abbrev pub are_closed : Ranks → List Symbol → List (Option ℕ) → List Bool → Bool
are_closed ranks symbols requests roots = all_from (keeps_root ranks) 0 roots && all_from (keeps_request ranks requests) 0 symbols

-- each claimed object has a reason, and they are closed
abbrev pub are_sound : Ranks → List Symbol → List (Option ℕ) → List Bool → List ClaimedObject → Bool
are_sound ranks symbols requests roots loaded = list_all (is_grounded ranks symbols requests roots) loaded && are_closed ranks symbols requests roots

-- the claimed objects rise, and are sound by their ranks
abbrev pub accepts : List Symbol → List (Option ℕ) → List Bool → List ClaimedObject → Bool
accepts symbols requests roots loaded = rises_from None loaded && are_sound (rank_in loaded) symbols requests roots loaded
