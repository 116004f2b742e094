-- How the objects of a link are cut into groups.
use Rattle.std.specs.Prelude.{ℕ, ◌≡◌, ◌+◌, ◌*◌, ◌/◌, ◌<◌, ◌≤◌, ◌⊎◌, ◌||◌, ◌==◌, nat_le, nat_lt, max, Bool, true, false, List, [], ◌∷◌, length, Option, Some, None, slice_get, if◌then◌else◌}
use Rattle.std.specs.List.{flat_map, AllByRecursion}
use Rattle.link_input.specs.ObjectFile.{ObjectFile}
use Rattle.link_input.specs.Limits.{total}

-- how many symbols objects have
abbrev pub symbols_in : List ObjectFile → ℕ
symbols_in objects = total (λ o. length o.object.symbols) objects

-- how many symbols a group may have: no end for one worker, else a share of all that gives each worker several groups
abbrev pub symbol_limit : ℕ → ℕ → Option ℕ
symbol_limit workers symbols = if workers == 1 then None else Some (max 1 (symbols / max (5 * workers) 150))

-- past the limit, where there is one
abbrev pub is_past : Option ℕ → ℕ → Bool
is_past None n = false
is_past (Some limit) n = nat_lt limit n

-- a group that can't take the next object: it has as many as it may, or the symbols would pass the limit
abbrev pub is_full_for : ℕ → Option ℕ → List ObjectFile → ObjectFile → Bool
is_full_for files limit group next = nat_le files (length group) || is_past limit (symbols_in group + length next.object.symbols)

-- a group that isn't too large: one object may have any number of symbols
abbrev pub IsWithin : ℕ → Option ℕ → List ObjectFile → Type 0
IsWithin files limit group = (length group ≤ files) × ((length group ≡ 1) ⊎ (is_past limit (symbols_in group) ≡ false))

-- each group but the last can't take the first object of the next one
abbrev pub AreFull : ℕ → Option ℕ → List (List ObjectFile) → Type 0
AreFull files limit [] = Unit {0}
AreFull files limit (g ∷ []) = Unit {0}
AreFull files limit (g ∷ h ∷ gs) = ((next : ObjectFile) → slice_get h 0 ≡ Some next → is_full_for files limit g next ≡ true) × AreFull files limit (h ∷ gs)

-- the objects in groups: in order, none empty, none too large, and each as large as it can be
pub record IsCut (files : ℕ) (limit : Option ℕ) (objects : List ObjectFile) (groups : List (List ObjectFile)) : Type 0 where
  pub joined : flat_map (λ g. g) groups ≡ objects
  pub some : AllByRecursion (λ g. 0 < length g) groups
  pub within : AllByRecursion (IsWithin files limit) groups
  pub full : AreFull files limit groups
