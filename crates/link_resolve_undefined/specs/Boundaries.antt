-- The names that mark the start and the end of custom sections.
use Rattle.std.specs.Prelude.{◌≡◌, ◌++◌, ◌&&◌, ◌||◌, ℕ, Bool, List, Option, codes, filter, is_none, reverse}
use Rattle.std.specs.List.{list_any}
use Rattle.std.specs.Str.{bytes_eq}
use Rattle.link_names.specs.Names.{has_name, is_member}
use Rattle.link_rules.specs.Places.{Bytes, is_number}
use Rattle.link_rules.specs.Undefined.{Numbered}
use Rattle.link_resolve_undefined.specs.declared.boundaries.SectionMarks.{SectionMarks}
use Rattle.link_resolve_undefined.specs.declared.name_ids.NameIds.{NameIds}
use Rattle.link_resolve_undefined.specs.NameIds.{id_in}

-- the name marks the start or the end of one of these sections
abbrev pub is_mark_of : List Bytes → Bytes → Bool
is_mark_of sections name = list_any (λ section. bytes_eq name (codes "__start_" ++ section) || bytes_eq name (codes "__stop_" ++ section)) sections

-- they are the marks of these sections
abbrev pub Marks : SectionMarks → List Bytes → Type 0
Marks marks sections = (asked : Bytes) → is_member marks.sections asked ≡ has_name sections asked

-- a new symbol is made for this reference to a name and version, where these are the last ones to names
abbrev pub makes_new : List Bytes → NameIds → Bytes → Option Bytes → ℕ → Bool
makes_new sections last name version s = is_none version && is_mark_of sections name && is_number (id_in last name version) s

-- the references for which new symbols are made, the last of them first
abbrev pub makers_by : List Bytes → NameIds → List Numbered → List Numbered
makers_by sections last records = reverse (filter (λ u. makes_new sections last u.1.name u.1.version u.0) records)
