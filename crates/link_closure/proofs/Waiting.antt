-- What holds of the numbers that wait in the work list.
use Rattle.std.proofs.Common.{◌⊎◌, ℕ, List, Bool}
use Rattle.std.specs.List.{Contains}
use Rattle.link_closure.specs.Graph.{Graph, IsMarked, Leads}

-- all to which the number leads is marked
abbrev pub IsDone : Graph → List Bool → ℕ → Type 0
IsDone graph marks f = (g : ℕ) → Leads graph f g → IsMarked marks g

-- a marked number waits, or is done
abbrev pub WaitsOrIsDone : Graph → List Bool → List ℕ → ℕ → Type 0
WaitsOrIsDone graph marks todo f = IsMarked marks f → Contains todo f ⊎ IsDone graph marks f
