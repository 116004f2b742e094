-- How many requests a workload lists for the items of marked files, and how many workers read its items.
use Rattle.std.specs.Prelude.{ℕ, ◌+◌, if◌then◌else◌, Bool, List, [], ◌∷◌, length, max, min}
use Rattle.link_closure.specs.Closure.{is_marked}
use Rattle.link_closure.specs.declared.workload.Item.{Item}
use Rattle.link_closure.specs.declared.workload.Workload.{Workload}

-- the requests of those of these items whose file is marked
abbrev pub requests_in : List Bool → List Item → ℕ
requests_in marks [] = 0
requests_in marks (it ∷ its) = (if is_marked marks it.file then length it.requests else 0) + requests_in marks its

-- those of the items of marked files
abbrev pub requests_of : Workload → List Bool → ℕ
requests_of w marks = requests_in marks w.items

-- as many workers as are asked for, but no more than there are items, and one at least
abbrev pub readers_of : ℕ → ℕ → ℕ
readers_of workers items = max (min workers items) 1
