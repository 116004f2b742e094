-- The groups of loaded regular objects, found by the places of these.
use Rattle.std.specs.Prelude.{ℕ, ◌≡◌, ◌<◌, ◌==◌, List, [], Bool, Option, None, IfSome, slice_get}
use Rattle.std.specs.Option.{option_and_then}
use Rattle.std.specs.List.{slice_index_or}
use Rattle.link_input.specs.Checks.{first_place}
use Rattle.link_input.specs.ObjectFile.{ObjectFile}
use Rattle.link_resolve_comdat.specs.ObjectGroups.{ObjectGroups}
use Rattle.link_resolve_comdat.specs.Selected.{SelectedGroups, selected}
use Rattle.link_resolve_discarded.specs.Regular.{regular_among}

-- what is selected of the groups of some objects, and the index of each of these by its place among all objects of the link
pub record IndexedGroups : Type 0 where
  pub indices : List (Option ℕ)
  pub groups : SelectedGroups

-- the index that a column has for a place
abbrev pub index_at : List (Option ℕ) → ℕ → Option ℕ
index_at indices f = slice_index_or indices f None

-- all indices of a column are below a number
abbrev pub AreBelow : ℕ → List (Option ℕ) → Type 0
AreBelow count indices = (f : ℕ) → IfSome (index_at indices f) (λ index. index < count)

-- the index of the object with this place among some objects
abbrev pub index_of : List (ℕ × ObjectFile) → ℕ → Option ℕ
index_of objects f = first_place (λ i o. o.0 == f) 0 objects

-- the groups of the object at this place
abbrev pub groups_at : IndexedGroups → ℕ → Option ObjectGroups
groups_at g f = option_and_then (slice_get g.groups.objects) (index_at g.indices f)

-- those of no object
abbrev pub no_groups : IndexedGroups
no_groups = record { indices = []; groups = record { objects = []; kept = [] } }

-- they are those of the loaded regular objects among these
pub record AreGroupsOf (marks : List Bool) (objects : List ObjectFile) (g : IndexedGroups) : Type 0 where
  pub groups : g.groups ≡ selected (regular_among marks objects)
  pub indices : (f : ℕ) → index_at g.indices f ≡ index_of (regular_among marks objects) f
