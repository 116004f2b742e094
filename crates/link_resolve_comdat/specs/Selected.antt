-- Which groups of loaded regular objects are kept, object by object.
use Rattle.std.specs.Prelude.{ℕ, List, map, filter, true}
use Rattle.std.specs.List.{flat_map}
use Rattle.link_input.specs.ObjectFile.{ObjectFile}
use Rattle.link_rules.specs.declared.linked.KeptGroup.{KeptGroup}
use Rattle.link_rules.specs.Comdat.{PlacedGroup, groups_of, comdats_among, is_kept_among}
use Rattle.link_resolve_comdat.specs.ObjectGroups.{ObjectGroups}

-- the groups of each object, and the COMDAT groups that are kept
pub record SelectedGroups : Type 0 where
  pub objects : List ObjectGroups
  pub kept : List KeptGroup

-- the groups of an object, each pending, where these are the groups of all objects
abbrev pub object_groups : List PlacedGroup → ℕ × ObjectFile → ObjectGroups
object_groups all o = record {
  sections = o.1.object.sections;
  groups = o.1.object.groups;
  kept = map (is_kept_among (comdats_among all)) (groups_of o);
  pending = map (λ g. true) o.1.object.groups;
}

-- a group as a report tells of it
abbrev pub told : PlacedGroup → KeptGroup
told g = record { object = g.place.0; group = g.place.1; signature = g.signature }

-- the COMDAT groups among groups that are kept, in order
abbrev pub comdats_kept_among : List PlacedGroup → List KeptGroup
comdats_kept_among groups = map told (filter (λ g. g.group.is_comdat) (filter (is_kept_among (comdats_among groups)) groups))

-- what is selected of the groups of objects, each with its place
abbrev pub selected : List (ℕ × ObjectFile) → SelectedGroups
selected objects = record {
  objects = map (object_groups (flat_map groups_of objects)) objects;
  kept = comdats_kept_among (flat_map groups_of objects);
}
