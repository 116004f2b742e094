-- Objects with the names of their files.
use Rattle.link_input.specs.declared.object.ObjectTable.{ObjectTable}
use Rattle.link_input.specs.declared.parsed_object.Modifiers.{Modifiers}
use Rattle.std.specs.Prelude.{ℕ, List, Bool, not, ◌&&◌, ◌||◌}

-- an object, whatever its platform: the name of its file, its table, and how it was named on the command line
pub record ObjectFile : Type 0 where
  pub input : List ℕ
  pub object : ObjectTable
  pub modifiers : Modifiers

-- a member of an archive that is not taken whole, or a shared object that is taken only as needed
abbrev pub is_optional : ObjectFile → Bool
is_optional o = (o.modifiers.archive && not o.modifiers.whole_archive) || (o.object.is_dynamic && o.modifiers.as_needed)
