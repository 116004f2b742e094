-- Marks of the objects that hold what names are mapped to.
use Rattle.std.specs.Prelude.{ℕ, List, Bool, true, Option, Some, None, option_and_then, slice_set}
use Rattle.link_rules.specs.Places.{Bytes, is_number}
use Rattle.link_check_names.specs.Named.{Named, mapped_name}
use Rattle.link_check_targets.specs.Tables.{object_at}

-- the place of the object that holds what a name is mapped to
abbrev pub object_named : Named → Bytes → Option ℕ
object_named n name = option_and_then (object_at n.symbols) (mapped_name n name)

-- whether the object holds what a name is mapped to
abbrev pub holds : Named → ℕ → Bytes → Bool
holds n f name = is_number (object_named n name) f

-- the object is marked, if there is one
abbrev pub with_mark : List Bool → Option ℕ → List Bool
with_mark marks None = marks
with_mark marks (Some f) = slice_set marks f true

-- the object that holds what a name is mapped to is marked
abbrev pub marked_by : Named → List Bool → Bytes → List Bool
marked_by n marks name = with_mark marks (object_named n name)
