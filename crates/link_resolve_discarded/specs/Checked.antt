-- The groups of objects that batches load, one after another.
use Rattle.std.specs.Prelude.{◌≡◌, ◌&&◌, ℕ, Bool, List, None, filter, filter_map, not}
use Rattle.std.specs.List.{enumerate_from}
use Rattle.link_closure.specs.Closure.{is_marked}
use Rattle.link_input.specs.ObjectFile.{ObjectFile}
use Rattle.link_rules.specs.Comdat.{loaded_regular}
use Rattle.link_rules.specs.Places.{first_of, is_empty}
use Rattle.link_rules.specs.Refusals.{group_cause}
use Rattle.link_rules.specs.World.{Stage}

-- the object at this place is loaded by its mark, and no earlier batch had it loaded
abbrev pub is_new : List Bool → ℕ → Bool → Bool
is_new earlier f mark = mark && not (is_marked earlier f)

-- the object has section groups
abbrev pub has_groups : ℕ × ObjectFile → Bool
has_groups o = not (is_empty o.1.object.groups)

-- the object at this place is loaded by its mark, not shared, and has section groups
abbrev pub is_grouped : List Bool → ℕ → ObjectFile → Bool
is_grouped marks f o = (is_marked marks f && not o.object.is_dynamic) && has_groups (f, o)

-- the loaded objects that are not shared and have section groups, each with its place
abbrev pub grouped_among : List Bool → List ObjectFile → List (ℕ × ObjectFile)
grouped_among marks objects = filter (λ o. (is_marked marks o.0 && not o.1.object.is_dynamic) && has_groups o) (enumerate_from 0 objects)

-- no regular object that earlier batches had loaded lists a section as a member of its groups twice
abbrev pub WereGroupsFine : Stage → Type 0
WereGroupsFine w = first_of (filter_map group_cause (loaded_regular w w.earlier.loaded)) ≡ None
