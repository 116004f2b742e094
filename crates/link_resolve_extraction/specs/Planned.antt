-- The work of a link, told by what a plan holds.
use Rattle.std.specs.Prelude.{ℕ, List, length, map, slice_index}
use Rattle.std.specs.List.{flat_map, range_with_len}
use Rattle.link_closure.specs.declared.workload.Item.{Item}
use Rattle.link_closure.specs.declared.workload.Mark.{Mark}
use Rattle.link_closure.specs.declared.workload.Workload.{Workload}
use Rattle.link_db_symbols.specs.Walk.{SymbolsLeft}
use Rattle.link_resolve_extraction.specs.declared.items.WorkItem.{WorkItem}
use Rattle.link_resolve_extraction.specs.Asked.{Known, marks_by, requests_by}
use Rattle.link_resolve_extraction.specs.Items.{symbols_of_item}

-- what an item requests and marks
abbrev pub item_by : Known → List SymbolsLeft → WorkItem → Item
item_by known objects it = record {
  file = it.object;
  requests = flat_map (requests_by known) (symbols_of_item objects it);
  marks = flat_map (marks_by known) (symbols_of_item objects it);
}

-- the flags of so many symbols: nothing where a symbol has no word
abbrev pub opening_of : ℕ → List ℕ → List ℕ
opening_of symbols flags = map (slice_index flags) (range_with_len 0 symbols)

-- the work of these objects and items, with these roots, root marks and opening flags
abbrev pub planned : Known → List SymbolsLeft → List WorkItem → List ℕ → List Mark → List ℕ → Workload
planned known objects items roots root_marks opening = record {
  files = length objects;
  roots = roots;
  root_marks = root_marks;
  opening = opening;
  items = map (item_by known objects) items;
}
