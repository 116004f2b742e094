-- The groups of loaded objects, by objects and marks alone, and which of them are kept.
use Rattle.std.specs.Prelude.{ℕ, ◌≡◌, ◌&&◌, List, [], ◌∷◌, filter, Bool, not, Option, None, Some, if◌then◌else◌}
use Rattle.std.specs.List.{enumerate_from, flat_map}
use Rattle.std.specs.Option.{option_or}
use Rattle.std.specs.Str.{bytes_eq}
use Rattle.link_closure.specs.Closure.{is_marked}
use Rattle.link_input.specs.ObjectFile.{ObjectFile}
use Rattle.link_names.specs.Names.{Noted, value_in}
use Rattle.link_rules.specs.Comdat.{Comdat, GroupPlace, PlacedGroup, comdats_among, groups_of, is_kept_among, kept_place}
use Rattle.link_rules.specs.Places.{Bytes}
use Rattle.link_check_claims.specs.declared.claim.ClaimedGroup.{ClaimedGroup}

-- the object is loaded, and is not shared
abbrev pub is_loaded_regular : List Bool → ℕ × ObjectFile → Bool
is_loaded_regular marks o = is_marked marks o.0 && not o.1.object.is_dynamic

-- the groups of the loaded objects that are not shared: at a stage with these objects they are `loaded_groups`
abbrev pub groups_among : List ObjectFile → List Bool → List PlacedGroup
groups_among objects marks = flat_map groups_of (filter (is_loaded_regular marks) (enumerate_from 0 objects))

-- the groups of an object, if it is one of these
abbrev pub groups_if_loaded : List Bool → ℕ × ObjectFile → List PlacedGroup
groups_if_loaded marks o = if is_loaded_regular marks o then groups_of o else []

-- the place of a group, if it is a COMDAT group of this signature
abbrev pub comdat_place : Bytes → PlacedGroup → Option GroupPlace
comdat_place signature g = if g.group.is_comdat && bytes_eq signature g.signature then Some g.place else None

-- the place of the first COMDAT group of a signature
abbrev pub first_comdat : List PlacedGroup → Bytes → Option GroupPlace
first_comdat [] signature = None
first_comdat (g ∷ gs) signature = option_or (comdat_place signature g) (first_comdat gs signature)

-- of each signature is noted which group of it is kept
abbrev pub AreFirst : Noted GroupPlace → List PlacedGroup → Type 0
AreFirst first groups = (signature : Bytes) → value_in first signature ≡ kept_place (comdats_among groups) signature

-- a place, as a claim tells it
abbrev pub claimed_place : GroupPlace → ClaimedGroup
claimed_place place = record { object = place.0; group = place.1 }

-- what is claimed of a group: its place, if it is a COMDAT group that is kept
abbrev pub claims_of : List Comdat → PlacedGroup → List ClaimedGroup
claims_of comdats g = if g.group.is_comdat && is_kept_among comdats g then claimed_place g.place ∷ [] else []
