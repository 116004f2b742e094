use Rattle.std.proofs.Common.{◌≡◌, ◌++◌, drop, length}
use Rattle.std.specs.List.{flat_map}
use Rattle.link_db_files.specs.Inputs.{objects_in}
use Rattle.link_input_groups.specs.Groups.{files_of}
use Rattle.link_rules.specs.Places.{each_from}
use Rattle.link_db_symbols.specs.Walk.{objects_among}
use Rattle.link_resolve_discarded.specs.Checked.{is_grouped}
use Rattle.link_resolve_discarded.proofs.candidates.grouped_marks.Given as goal

-- the marks so far, and those of the objects that are left
abbrev pub invariant-loop-outline : goal.invariant-loop-outline
invariant-loop-outline g l =
    l.marks.items ++ each_from (is_grouped l.loaded) (length l.marks.items) (objects_among (drop l.outline-index (flat_map files_of l.files.groups))) ≡ each_from (is_grouped l.loaded) 0 (objects_in l.files.groups)
