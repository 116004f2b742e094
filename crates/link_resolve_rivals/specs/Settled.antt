-- What each symbol points to once lists of rivals are settled, and which of their entries clash.
use Rattle.std.specs.Prelude.{ℕ, ◌&&◌, ◌<◌, List, [], map, slice_get, Option, None, if◌then◌else◌, length, filter_map, option_map, slice_index}
use Rattle.std.specs.List.{range_with_len}
use Rattle.std.specs.Option.{option_map_or}
use Rattle.link_rules.specs.Places.{Bytes, contains, each_from, first_of, are_several, is_number}
use Rattle.link_rules.specs.Rivals.{clash, settled_entry, stand_in}
use Rattle.link_rules.specs.Refusals.{duplicate_line}
use Rattle.link_rules.specs.World.{Stage}
use Rattle.link_rules.specs.Selection.{Selection}
use Rattle.link_resolve_rivals.specs.declared.settling.Clash.{Clash}

-- what the symbol of this id points to once its list is settled
abbrev pub settled_at : Selection → (ℕ → List ℕ) → List ℕ → ℕ → ℕ → ℕ
settled_at l listed table s old = settled_entry l (listed s) (map (stand_in l table) (listed s)) old

-- what each symbol points to once the lists are settled
abbrev pub settled_table : Selection → (ℕ → List ℕ) → List ℕ → List ℕ
settled_table l listed table = each_from (settled_at l listed table) 0 table

-- two entries of the list that begins with this symbol
abbrev pub clash_of : ℕ → ℕ × ℕ → Clash
clash_of head pair = record { head = head; first = pair.0; second = pair.1 }

-- its symbols are below a count
abbrev pub IsInside : ℕ → Clash → Type 0
IsInside n c = (c.head < n) × ((c.first < n) × (c.second < n))

-- the clash of a list, if it begins with this symbol
abbrev pub clash_at : Selection → List ℕ → List ℕ → ℕ → Option Clash
clash_at l own table s =
    if is_number (first_of own) s && are_several own then option_map (clash_of s) (clash l (map (stand_in l table) own)) else None

-- the clashes of all lists, in the order of their heads
abbrev pub clashes : Selection → (ℕ → List ℕ) → List ℕ → List Clash
clashes l listed table = filter_map (λ s. clash_at l (listed s) table s) (range_with_len 0 (length table))

-- the name of the symbol of this id
abbrev pub name_at : Stage → ℕ → Bytes
name_at w s = option_map_or (λ x. x.name) (slice_get w.symbols s) []

-- the line of a clash: the name of the head with the files of two definitions
abbrev pub clash_line : Stage → Clash → Bytes
clash_line w c = duplicate_line w (name_at w c.head) (c.first, c.second)

-- what a symbol points to once this list alone is settled
abbrev pub settled_among : Selection → List ℕ → List ℕ → ℕ → ℕ
settled_among l own table s =
    if contains s own then settled_entry l own (map (stand_in l table) own) (slice_index table s) else slice_index table s

-- the same, if the list begins with this head
abbrev pub settled_on : Selection → List ℕ → List ℕ → ℕ → ℕ → ℕ
settled_on l own table head s = if is_number (first_of own) head then settled_among l own table s else slice_index table s
