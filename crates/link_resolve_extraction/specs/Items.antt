-- The items of a link, told by the symbols of its objects.
use Rattle.std.specs.Prelude.{ℕ, ◌+◌, ◌*◌, List, [], ◌∷◌, ◌++◌, drop, length, map, slice_get, take}
use Rattle.std.specs.List.{range_with_len}
use Rattle.std.specs.Option.{option_map_or}
use Rattle.link_input.specs.Symbols.{Symbol}
use Rattle.link_rules.specs.Work.{item_count, item_size}
use Rattle.link_db_symbols.specs.Walk.{SymbolsLeft, with_ids}
use Rattle.link_resolve_extraction.specs.declared.items.WorkItem.{WorkItem}

-- a part of the object at this place
abbrev pub part_at : ℕ → ℕ → WorkItem
part_at f k = record { object = f; part = k }

-- the items of that object, which has so many symbols
abbrev pub parts_of : ℕ → ℕ → List WorkItem
parts_of f symbols = map (part_at f) (range_with_len 0 (item_count symbols))

-- the items of objects, of which the first one has this place
abbrev pub all_items : ℕ → List SymbolsLeft → List WorkItem
all_items f [] = []
all_items f (o ∷ os) = parts_of f (length o.left) ++ all_items (f + 1) os

-- the symbols of the object at this place, with their ids
abbrev pub symbols_at : List SymbolsLeft → ℕ → List (ℕ × Symbol)
symbols_at objects f = option_map_or with_ids (slice_get objects f) []

-- those of an item
abbrev pub symbols_of_item : List SymbolsLeft → WorkItem → List (ℕ × Symbol)
symbols_of_item objects it = take item_size (drop (item_size * it.part) (symbols_at objects it.object))
