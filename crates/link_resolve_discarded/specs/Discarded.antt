-- Which groups are discarded of those that are found by places.
use Rattle.std.specs.Prelude.{ℕ, List, [], Bool, Option, map, filter, not, slice_get}
use Rattle.std.specs.Option.{option_map_or, option_and_then}
use Rattle.std.specs.List.{enumerate_from, flat_map, zip}
use Rattle.link_input.specs.declared.object.SectionGroup.{SectionGroup}
use Rattle.link_rules.specs.Comdat.{PlacedGroup}
use Rattle.link_resolve_comdat.specs.ObjectGroups.{ObjectGroups}
use Rattle.link_resolve_comdat.specs.Selected.{SelectedGroups}
use Rattle.link_resolve_discarded.specs.Indexed.{IndexedGroups}

-- a group of the object at this place, with its place there; which sections are discarded does not depend on its signature
abbrev pub unsigned_group : ℕ → ℕ × (SectionGroup × Bool) → PlacedGroup
unsigned_group f g = record { place = (f, g.0); signature = []; group = g.1.0 }

-- the groups of the object at this place that aren't kept
abbrev pub lost_groups : ℕ → ObjectGroups → List PlacedGroup
lost_groups f o = map (unsigned_group f) (filter (λ g. not g.1.1) (enumerate_from 0 (zip o.groups o.kept)))

-- the same, of the object at this place with this index among those that were selected, if it has one
abbrev pub discarded_at : SelectedGroups → ℕ × Option ℕ → List PlacedGroup
discarded_at groups x = option_map_or (lost_groups x.0) (option_and_then (slice_get groups.objects) x.1) []

-- the groups that aren't kept
abbrev pub discarded_in : IndexedGroups → List PlacedGroup
discarded_in g = flat_map (discarded_at g.groups) (enumerate_from 0 g.indices)
