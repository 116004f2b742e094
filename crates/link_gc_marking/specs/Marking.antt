-- The work of the marking: a node is a file with one item.
use Rattle.std.specs.Prelude.{ℕ, ◌==◌, Bool, List, [], length, filter, map}
use Rattle.std.specs.List.{range_with_len}
use Rattle.link_closure.specs.Closure.{is_marked}
use Rattle.link_closure.specs.declared.Edge.{Edge}
use Rattle.link_closure.specs.declared.workload.Item.{Item}
use Rattle.link_closure.specs.declared.workload.Workload.{Workload}

-- those to which an edge leads from the node
abbrev pub targets_from : List Edge → ℕ → List ℕ
targets_from edges node = map (λ e. e.to) (filter (λ e. e.from == node) edges)

-- the item of a node: it requests those
abbrev pub item_of : List Edge → ℕ → Item
item_of edges node = record { file = node; requests = targets_from edges node; marks = [] }

-- the work of a graph with a mark for each root
abbrev pub marking : List Bool → List Edge → Workload
marking roots edges = record {
  files = length roots;
  roots = filter (is_marked roots) (range_with_len 0 (length roots));
  root_marks = [];
  opening = [];
  items = map (item_of edges) (range_with_len 0 (length roots));
}
