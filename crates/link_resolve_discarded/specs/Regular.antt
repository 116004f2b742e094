-- The objects whose groups compete.
use Rattle.std.specs.Prelude.{ℕ, ◌&&◌, List, Bool, not, filter}
use Rattle.std.specs.List.{enumerate_from}
use Rattle.link_closure.specs.Closure.{is_marked}
use Rattle.link_input.specs.ObjectFile.{ObjectFile}

-- the loaded objects that are not shared, each with its place; of the objects of a stage they are its `loaded_regular`
abbrev pub regular_among : List Bool → List ObjectFile → List (ℕ × ObjectFile)
regular_among marks objects = filter (λ o. is_marked marks o.0 && not o.1.object.is_dynamic) (enumerate_from 0 objects)
