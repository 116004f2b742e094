-- New symbols for the start and the end of custom sections, and what symbols point to at the end, by what is noted of names.
use Rattle.std.specs.Prelude.{ℕ, ◌+◌, ◌&&◌, ◌||◌, List, ◌++◌, filter, reverse, position, Bool, not, Option, codes, is_none, is_some, if◌then◌else◌, option_map, slice_index, unwrap_or}
use Rattle.std.specs.List.{list_any}
use Rattle.std.specs.Option.{option_or}
use Rattle.std.specs.Str.{bytes_eq}
use Rattle.link_input.specs.Symbols.{Symbol}
use Rattle.link_rules.specs.Places.{Bytes, is_number}
use Rattle.link_rules.specs.Undefined.{Numbered, asks_same}
use Rattle.link_check_undefined.specs.Columns.{Known, stays}
use Rattle.link_check_undefined.specs.Noted.{Noted, id_of}

-- the name is that of one of these sections behind the prefix
abbrev pub is_mark_behind : Bytes → List Bytes → Bytes → Bool
is_mark_behind prefix sections name = list_any (λ section. bytes_eq name (prefix ++ section)) sections

-- the name marks the start or the end of one of these sections
abbrev pub is_mark : List Bytes → Bytes → Bool
is_mark sections name =
    list_any (λ section. bytes_eq name (codes "__start_" ++ section) || bytes_eq name (codes "__stop_" ++ section)) sections

-- the symbol has such a name, and no version
abbrev pub is_boundary_of : List Bytes → Symbol → Bool
is_boundary_of sections x = is_none x.version && is_mark sections x.name

-- a new symbol is made for the last reference to the start or the end of one of these sections
abbrev pub makes_new : List Bytes → Noted → Numbered → Bool
makes_new sections last u = is_boundary_of sections u.1 && is_number (id_of last u.1) u.0

-- the references for which new symbols are made, the last of them first
abbrev pub makers_in : List Bytes → Noted → List Numbered → List Numbered
makers_in sections last left = reverse (filter (makes_new sections last) left)

-- the new symbol of a name, where the first new one has this id
abbrev pub new_id : ℕ → List Numbered → Symbol → Option ℕ
new_id first makers x = option_map (λ i. first + i) (position (λ m. asks_same m.1 x) makers)

-- what a symbol points to at the end: what it did, unless it stays undefined and isn't the last reference to its name and version
abbrev pub entry_by : Noted → Noted → Bool → ℕ → ℕ → Symbol → ℕ
entry_by last made stays_undefined old s x =
    if not stays_undefined || (is_some x.version && is_number (id_of last x) s) then old
    else unwrap_or (option_or (id_of made x) (id_of last x)) s

-- the same by columns, and by what it pointed to before
abbrev pub entry_in : Known → Noted → Noted → List ℕ → ℕ → Symbol → ℕ
entry_in c last made table s x = entry_by last made (stays c (s, x)) (slice_index table s) s x
