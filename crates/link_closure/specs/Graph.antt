-- A graph, by its edges, and as rows: for each number those to which it leads.
use Rattle.std.specs.Prelude.{◌≡◌, ℕ, ◌<◌, List, Bool, IsTrue, All, Contains, Some, slice_get, Vec}
use Rattle.std.specs.declared.alloc.Global.{Global}
use Rattle.link_closure.specs.Closure.{is_marked}
use Rattle.link_closure.specs.declared.Edge.{Edge}

-- an edge leads from f to g
abbrev pub IsEdge : List Edge → ℕ → ℕ → Type 0
IsEdge edges f g = Contains edges (record { from = f; to = g })

-- both ends of each edge are below the count
abbrev pub AreInRange : ℕ → List Edge → Type 0
AreInRange count edges = All (λ e. (e.from < count) × (e.to < count)) edges

-- a row for each number: those to which it leads
abbrev pub Graph : Type 0
Graph = List (Vec ℕ Global)

-- the number has a mark
abbrev pub IsMarked : List Bool → ℕ → Type 0
IsMarked marks f = IsTrue (is_marked marks f)

-- g stands in the row of f
abbrev pub Leads : Graph → ℕ → ℕ → Type 0
Leads graph f g = (row : Vec ℕ Global) × (slice_get graph f ≡ Some row) × Contains row.items g

-- each row names numbers below the count alone
abbrev pub AreBelow : ℕ → Graph → Type 0
AreBelow count graph = All (λ row. All (λ g. g < count) row.items) graph
