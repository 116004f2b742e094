-- The symbols that name the groups of loaded objects whose headers stay.
use Rattle.std.specs.Prelude.{ℕ, ◌+◌, List, [], Option, map, filter, not, unwrap_or}
use Rattle.std.specs.Option.{option_map_or}
use Rattle.link_input.specs.declared.object.SectionGroup.{SectionGroup}
use Rattle.link_input.specs.Checks.{first_place}
use Rattle.link_input.specs.ObjectFile.{ObjectFile}
use Rattle.link_input.specs.Symbols.{Symbol, object_in}
use Rattle.link_rules.specs.Places.{is_number}
use Rattle.link_resolve_comdat.specs.ObjectGroups.{ObjectGroups, is_discarded}
use Rattle.link_resolve_discarded.specs.Indexed.{IndexedGroups, groups_at}

-- the id of the first symbol of the object at this place among symbols, of which the first has this id
abbrev pub first_id : ℕ → ℕ → List Symbol → Option ℕ
first_id f next symbols = first_place (λ s x. is_number (object_in x.origin) f) next symbols

-- the symbols that name those of an object's groups whose headers stay, where its first symbol has this id
abbrev pub signatures_of : ℕ → ObjectGroups → List SectionGroup → List ℕ
signatures_of first o groups = map (λ g. first + g.signature_symbol) (filter (λ g. not (is_discarded o g.index)) groups)

-- the same of an object by its place; none, where it isn't a loaded regular one
abbrev pub signatures_from : ℕ → IndexedGroups → ℕ × ObjectFile → List ℕ
signatures_from first g o = option_map_or (λ own. signatures_of first own o.1.object.groups) (groups_at g o.0) []

-- the same, where all files have these symbols
abbrev pub signatures_at : IndexedGroups → List Symbol → ℕ × ObjectFile → List ℕ
signatures_at g symbols o = signatures_from (unwrap_or (first_id o.0 0 symbols) 0) g o
