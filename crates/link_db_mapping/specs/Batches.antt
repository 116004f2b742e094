-- The symbols of a batch of files.
use Rattle.std.specs.Prelude.{List, length, map}
use Rattle.std.specs.List.{flat_map}
use Rattle.link_db_files.specs.Inputs.{objects_in}
use Rattle.link_input_groups.specs.declared.group.Group.{Group}
use Rattle.link_input_groups.specs.Groups.{files_of}
use Rattle.link_input.specs.Symbols.{Symbol, symbols_of}

-- the symbols of groups that follow others
abbrev pub symbols_behind : {P : Type 0} → List (Group P) → List (Group P) → List Symbol
symbols_behind held more = symbols_of (length (objects_in held)) (map (λ f. f.file) (flat_map files_of more))
