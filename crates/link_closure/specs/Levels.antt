-- Levels: how few edges lead from a root to a number.
use Rattle.std.specs.Prelude.{◌≡◌, ℕ, zero, suc, ◌+◌, ◌≤◌, ◌⊎◌, ◌↔◌, List, length, count_by, is_none, Option, None, Some, Contains, slice_get}

-- a chain of n edges leads from a root to the number
abbrev pub HasChain : (ℕ → Type 0) → (ℕ → ℕ → Type 0) → ℕ → ℕ → Type 0
HasChain Root Leads zero f = Root f
HasChain Root Leads (suc n) f = (e : ℕ) × HasChain Root Leads n e × Leads e f

-- the number of edges of a shortest chain to the number
pub record IsLevel (Root : ℕ → Type 0) (Leads : ℕ → ℕ → Type 0) (n f : ℕ) : Type 0 where
  pub chain : HasChain Root Leads n f
  pub least : (m : ℕ) → HasChain Root Leads m f → n ≤ m

-- a list says that f is of level n
abbrev pub HasLevel : List (Option ℕ) → ℕ → ℕ → Type 0
HasLevel levels f n = slice_get levels f ≡ Some (Some n)

-- a list says that f is there and has no level
abbrev pub HasNoLevel : List (Option ℕ) → ℕ → Type 0
HasNoLevel levels f = slice_get levels f ≡ Some None

-- the list of levels of the numbers below a count, where those that no chain leads to have none
pub record AreLevels (Root : ℕ → Type 0) (Leads : ℕ → ℕ → Type 0) (count : ℕ) (levels : List (Option ℕ)) : Type 0 where
  pub each : length levels ≡ count
  pub level : (f n : ℕ) → HasLevel levels f n ↔ IsLevel Root Leads n f

-- the numbers of a kind, those of them that had no level, got this one, and stand in the layer behind those that stood there before
pub record Layered (Kind : ℕ → Type 0) (level : ℕ) (before after : List (Option ℕ)) (layer_before layer_after : List ℕ) : Type 0 where
  pub each : length after ≡ length before
  pub kept : (f n : ℕ) → HasLevel before f n → HasLevel after f n
  pub reached : (f : ℕ) → Kind f → (n : ℕ) × HasLevel after f n
  pub only : (f n : ℕ) → HasLevel after f n → HasLevel before f n ⊎ (Kind f × (n ≡ level) × HasNoLevel before f × Contains layer_after f)
  pub not_yet : (f : ℕ) → HasNoLevel after f → HasNoLevel before f
  pub waiting : (f : ℕ) → Contains layer_before f → Contains layer_after f
  pub listed : (f : ℕ) → Contains layer_after f → Contains layer_before f ⊎ (HasNoLevel before f × HasLevel after f level)
  pub fewer : count_by is_none after + length layer_after ≡ count_by is_none before + length layer_before
