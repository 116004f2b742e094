-- Where the ids of files begin.
use Rattle.std.specs.Prelude.{◌≡◌, ◌+◌, ◌<◌, ◌≤◌, ℕ, List, [], ◌∷◌, Some, map, slice_get}
use Rattle.std.specs.List.{flat_map}
use Rattle.link_ids.specs.Span.{Span}
use Rattle.link_ids.specs.FilePlace.{FilePlace}
use Rattle.link_input_groups.specs.declared.group.Group.{Group}
use Rattle.link_input_groups.specs.declared.group.Group.TheVariants as group
use Rattle.link_db_files.specs.declared.starts.FileStart.{FileStart}

-- a file whose symbols have these ids
abbrev pub start_of : Span → FilePlace → FileStart
start_of ids id = record { start = ids.start; id = id }

-- the files of a group, in order
abbrev pub group_starts : {P : Type 0} → Group P → List FileStart
group_starts (group.Prelude symbols) = start_of (record { start = 0; len = 0 }) (record { group = 0; file = 0 }) ∷ []
group_starts (group.Objects objects) = map (λ o. start_of o.symbol_id_range o.file_id) objects
group_starts (group.LinkerScripts scripts) = map (λ s. start_of s.symbol_id_range s.file_id) scripts
group_starts (group.StubLibraries stubs) = map (λ s. start_of s.symbol_id_range s.file_id) stubs
group_starts (group.SyntheticSymbols s) = start_of s.symbol_id_range s.file_id ∷ []

-- the files of groups, in order
abbrev pub starts_of : {P : Type 0} → List (Group P) → List FileStart
starts_of groups = flat_map group_starts groups

-- the file at the place begins at the symbol or before it, and the one behind it, if there is one, begins later
pub record IsLastFrom (starts : List FileStart) (id place : ℕ) : Type 0 where
  pub file : FileStart
  pub here : slice_get starts place ≡ Some file
  pub from : file.start ≤ id
  pub next : (y : FileStart) → slice_get starts (place + 1) ≡ Some y → id < y.start
