-- The places of loaded objects, as objects are met one after another.
use Rattle.std.specs.Prelude.{ℕ, ◌≡◌, Bool, List, length, min}
use Rattle.link_resolve_files.specs.declared.loaded_places.LoadedPlaces.{LoadedPlaces}

-- the next object has this place, and these are the marks
pub record AreFrom (marks : List Bool) (n : ℕ) (places : LoadedPlaces) : Type 0 where
  pub marks_are : places.marks.now ≡ marks
  pub next_is : places.next ≡ min n (length marks)
