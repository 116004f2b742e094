-- What passes over all files ask of each.
use Rattle.std.specs.Prelude.{◌==◌, Bool, false, List, length, map, not}
use Rattle.std.specs.List.{flat_map}
use Rattle.link_input.specs.InputFiles.{InputFile, prelude, object, linker_script, stub_library, synthetic, is_optional_file, is_shared_file, object_count, symbol_count}
use Rattle.link_input_groups.specs.declared.group.Group.{Group}
use Rattle.link_input_groups.specs.Groups.{files_of}
use Rattle.link_db_files.specs.declared.outlines.FileOutline.{FileOutline}

-- an object that has section groups
abbrev pub has_groups_file : InputFile → Bool
has_groups_file (prelude symbols) = false
has_groups_file (object o) = not (length o.object.groups == 0)
has_groups_file (linker_script s) = false
has_groups_file (stub_library input symbols) = false
has_groups_file synthetic = false

-- how many symbols stand in its table, whether it is an object, whether it is shared, whether it is linked only where it is asked for, and whether it is an object that
-- has section groups
abbrev pub outline_of : InputFile → FileOutline
outline_of f = record {
  symbols = symbol_count f;
  is_object = object_count f == 1;
  is_shared = is_shared_file f;
  is_optional = is_optional_file f;
  has_groups = has_groups_file f;
}

-- the outlines of the files of a group, in order
abbrev pub group_outlines : {P : Type 0} → Group P → List FileOutline
group_outlines g = map (λ f. outline_of f.file) (files_of g)

-- those of the files of groups, in order
abbrev pub outlines_of : {P : Type 0} → List (Group P) → List FileOutline
outlines_of groups = flat_map group_outlines groups
