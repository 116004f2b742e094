-- Which groups are kept, as they are met one after another.
use Rattle.std.specs.Prelude.{ℕ, List, [], ◌∷◌, ◌++◌, map, filter, Bool, true, not, ◌&&◌, ◌||◌}
use Rattle.std.specs.List.{list_any, zip}
use Rattle.std.specs.HashSet.{HashSet, contains_by}
use Rattle.std.specs.Str.{bytes_eq}
use denote.Ref.{Bor}
use Rattle.link_input.specs.ObjectFile.{ObjectFile}
use Rattle.link_rules.specs.declared.linked.KeptGroup.{KeptGroup}
use Rattle.link_rules.specs.Places.{Bytes}
use Rattle.link_rules.specs.Comdat.{PlacedGroup, groups_of}
use Rattle.link_resolve_comdat.specs.ObjectGroups.{ObjectGroups}
use Rattle.link_resolve_comdat.specs.Selected.{told}

-- the name is in the set
abbrev pub is_met : {S : Type 0} → HashSet (Bor (List ℕ)) S → Bytes → Bool
is_met names name = contains_by (λ key. bytes_eq name key.now) names

-- a COMDAT group of the signature
abbrev pub is_comdat_of : Bytes → PlacedGroup → Bool
is_comdat_of signature g = g.group.is_comdat && bytes_eq signature g.signature

-- the signature was met before, or is that of one of these COMDAT groups
abbrev pub met_with : (Bytes → Bool) → List PlacedGroup → Bytes → Bool
met_with met groups signature = met signature || list_any (is_comdat_of signature) groups

-- it is no COMDAT group, or its signature was not met before
abbrev pub is_kept_after : (Bytes → Bool) → PlacedGroup → Bool
is_kept_after met g = not g.group.is_comdat || not (met g.signature)

-- which of some groups are kept, where these signatures were met before
abbrev pub kept_in_order : (Bytes → Bool) → List PlacedGroup → List Bool
kept_in_order met [] = []
kept_in_order met (g ∷ gs) = is_kept_after met g ∷ kept_in_order (met_with met (g ∷ [])) gs

-- the groups of an object, each pending, where these signatures were met before
abbrev pub object_in_order : (Bytes → Bool) → ℕ × ObjectFile → ObjectGroups
object_in_order met o = record {
  sections = o.1.object.sections;
  groups = o.1.object.groups;
  kept = kept_in_order met (groups_of o);
  pending = map (λ g. true) o.1.object.groups;
}

-- the groups of objects, one after another
abbrev pub objects_in_order : (Bytes → Bool) → List (ℕ × ObjectFile) → List ObjectGroups
objects_in_order met [] = []
objects_in_order met (o ∷ os) = object_in_order met o ∷ objects_in_order (met_with met (groups_of o)) os

-- the COMDAT groups of which these truth values say that they are kept
abbrev pub comdats_told : List PlacedGroup → List Bool → List KeptGroup
comdats_told groups kept = map (λ g. told g.0) (filter (λ g. g.0.group.is_comdat && g.1) (zip groups kept))

-- the COMDAT groups of objects that are kept, one after another
abbrev pub comdats_in_order : (Bytes → Bool) → List (ℕ × ObjectFile) → List KeptGroup
comdats_in_order met [] = []
comdats_in_order met (o ∷ os) =
    comdats_told (groups_of o) (kept_in_order met (groups_of o)) ++ comdats_in_order (met_with met (groups_of o)) os
