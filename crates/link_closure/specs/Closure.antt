-- The least set of numbers that holds the roots, and with each number all to which it leads.
use Rattle.std.specs.Prelude.{◌≡◌, ℕ, List, length, Bool, false, IsTrue}
use Rattle.std.specs.List.{slice_index_or}

-- a set, as a test, holds the roots, and with each number all to which it leads
abbrev pub IsClosed : (ℕ → Type 0) → (ℕ → ℕ → Type 0) → (ℕ → Bool) → Type 0
IsClosed Root Leads holds =
    ((f : ℕ) → Root f → IsTrue (holds f))
    × ((f g : ℕ) → IsTrue (holds f) → Leads f g → IsTrue (holds g))

-- all that is in the set is in every closed set
abbrev pub IsPartOfEachClosed : (ℕ → Type 0) → (ℕ → ℕ → Type 0) → (ℕ → Bool) → Type 0
IsPartOfEachClosed Root Leads holds =
    (other : ℕ → Bool) → IsClosed Root Leads other → (f : ℕ) → IsTrue (holds f) → IsTrue (other f)

-- the set that a list of marks is, one mark for each number
abbrev pub is_marked : List Bool → ℕ → Bool
is_marked marks f = slice_index_or marks f false

-- the least closed set, of numbers below a count
pub record IsLeastClosed (Root : ℕ → Type 0) (Leads : ℕ → ℕ → Type 0) (count : ℕ) (marks : List Bool) : Type 0 where
  pub each : length marks ≡ count
  pub closed : IsClosed Root Leads (is_marked marks)
  pub least : IsPartOfEachClosed Root Leads (is_marked marks)
