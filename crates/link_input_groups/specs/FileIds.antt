-- The ids of files: the group, and the place in it.
use Rattle.std.specs.Prelude.{ℕ, ◌≡◌, ◌+◌, List, [], ◌∷◌, map, Some, slice_get}
use Rattle.link_ids.specs.FilePlace.{FilePlace}
use Rattle.link_input_groups.specs.declared.group.Group.{Group}
use Rattle.link_input_groups.specs.Groups.{file_ids}

-- the ids of the files of a group, from a place on, one for each item
abbrev pub ids_from : {A : Type 0} → ℕ → ℕ → List A → List FilePlace
ids_from group place [] = []
ids_from group place (x ∷ xs) = record { group = group; file = place } ∷ ids_from group (place + 1) xs

-- each file has the id that its place gives: the number of its group, and its place there
abbrev pub HavePlaces : {P : Type 0} → List (Group P) → Type 0
HavePlaces groups = (g k : ℕ) (ids : List FilePlace) (id : FilePlace) → slice_get (map file_ids groups) g ≡ Some ids → slice_get ids k ≡ Some id → id ≡ record { group = g; file = k }
