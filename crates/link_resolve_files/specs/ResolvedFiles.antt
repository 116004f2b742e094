-- The files of a link, once it is known which objects are loaded.
use Rattle.std.specs.Prelude.{Bool, true, false, List, Option, map, option_map, slice_get}
use Rattle.std.specs.Option.{option_and_then, option_map_or}
use Rattle.link_ids.specs.FilePlace.{FilePlace}
use Rattle.link_ids.specs.Span.{Span}
use Rattle.link_input.specs.SequencedFiles.{SequencedFile}
use Rattle.link_input_groups.specs.Groups.{object_file, script_file, sequenced_prelude, stub_file, synthetic_file}
use Rattle.link_resolve_comdat.specs.ObjectGroups.{ObjectGroups}
use Rattle.link_resolve_files.specs.declared.resolved_objects.NotLoaded.{NotLoaded}
use Rattle.link_resolve_files.specs.declared.resolved_file.ResolvedFile.{ResolvedFile}
use Rattle.link_resolve_files.specs.declared.resolved_file.ResolvedFile.TheVariants as variant
use Rattle.link_resolve_files.specs.declared.resolved_file.ResolvedGroup.{ResolvedGroup}

-- a file: the ids of an object that isn't loaded; a loaded regular object, with its section groups; or any other file that is linked
pub data ResolvedInput : Type 0 where
  not_loaded : (symbols sections : Span) → ResolvedInput
  regular : (file : SequencedFile) (id : FilePlace) (groups : Option ObjectGroups) → ResolvedInput
  other : (file : SequencedFile) (id : FilePlace) → ResolvedInput

-- the ids of the symbols of an object that isn't loaded
abbrev pub symbols_left : {P : Type 0} → NotLoaded P → Span
symbols_left o = o.sequenced.now.symbol_id_range

-- the ids of its sections
abbrev pub sections_left : {P : Type 0} → NotLoaded P → Span
sections_left o = o.sequenced.now.section_id_range

-- the id of the prelude
abbrev pub prelude_id : FilePlace
prelude_id = record { group = 0; file = 0 }

-- what a file is seen as
abbrev pub resolved_file : {P : Type 0} → ResolvedFile P → ResolvedInput
resolved_file (variant.NotLoaded o) = not_loaded (symbols_left o) (sections_left o)
resolved_file (variant.Prelude p) = other (sequenced_prelude p.prelude.now) prelude_id
resolved_file (variant.Object o) = regular (object_file o.common.sequenced.now) o.common.sequenced.now.file_id (option_map (λ g. g.now) o.section_groups)
resolved_file (variant.Dynamic o) = other (object_file o.common.sequenced.now) o.common.sequenced.now.file_id
resolved_file (variant.LinkerScript s) = other (script_file s.sequenced.now) s.sequenced.now.file_id
resolved_file (variant.StubLibrary s) = other (stub_file s.sequenced.now) s.sequenced.now.file_id
resolved_file (variant.SyntheticSymbols s) = other (synthetic_file s.sequenced.now) s.sequenced.now.file_id

-- what the files of a group are seen as
abbrev pub resolved_group : {P : Type 0} → ResolvedGroup P → List ResolvedInput
resolved_group g = map resolved_file g.files.items

-- the file is linked
abbrev pub is_linked : ResolvedInput → Bool
is_linked (not_loaded symbols sections) = false
is_linked (regular file id groups) = true
is_linked (other file id) = true

-- the file of this id
abbrev pub file_at : List (List ResolvedInput) → FilePlace → Option ResolvedInput
file_at groups id = option_and_then (λ files. slice_get files id.file) (slice_get groups id.group)

-- the file of this id is one of these and linked
abbrev pub is_loaded_in : List (List ResolvedInput) → FilePlace → Bool
is_loaded_in groups id = option_map_or is_linked (file_at groups id) false
