-- How the files of groups are resolved, where there is a mark for each loaded object, and the section groups of these are known.
use Rattle.std.specs.Prelude.{ℕ, ◌+◌, Bool, List, [], ◌∷◌, if◌then◌else◌, length, map}
use Rattle.std.specs.List.{enumerate_from}
use Rattle.link_closure.specs.Closure.{is_marked}
use Rattle.link_input_groups.specs.declared.group.Group.{Group}
use Rattle.link_input_groups.specs.declared.group.Group.TheVariants as group
use Rattle.link_input_groups.specs.declared.sequenced.SequencedInputObject.{SequencedInputObject}
use Rattle.link_input_groups.specs.Groups.{object_file, script_file, sequenced_prelude, stub_file, synthetic_file}
use Rattle.link_resolve_discarded.specs.Indexed.{IndexedGroups, groups_at}
use Rattle.link_resolve_files.specs.ResolvedFiles.{ResolvedInput, not_loaded, other, prelude_id, regular}

-- the object with this place among all objects
abbrev pub resolved_object : {P : Type 0} → List Bool → IndexedGroups → ℕ → SequencedInputObject P → ResolvedInput
resolved_object marks kept place o =
    if is_marked marks place
    then (if o.parsed.object.is_dynamic then other (object_file o) o.file_id else regular (object_file o) o.file_id (groups_at kept place))
    else not_loaded o.symbol_id_range o.section_id_range

-- objects one after another, of which the first has this place among all
abbrev pub resolved_objects : {P : Type 0} → List Bool → IndexedGroups → ℕ → List (SequencedInputObject P) → List ResolvedInput
resolved_objects marks kept place objects = map (λ o. resolved_object marks kept o.0 o.1) (enumerate_from place objects)

-- how many objects a group has
abbrev pub num_objects : {P : Type 0} → Group P → ℕ
num_objects (group.Prelude symbols) = 0
num_objects (group.Objects objects) = length objects
num_objects (group.LinkerScripts scripts) = 0
num_objects (group.StubLibraries stubs) = 0
num_objects (group.SyntheticSymbols s) = 0

-- the files of a group, before which there are so many objects
abbrev pub resolved_in : {P : Type 0} → List Bool → IndexedGroups → ℕ → Group P → List ResolvedInput
resolved_in marks kept before (group.Prelude symbols) = other (sequenced_prelude symbols) prelude_id ∷ []
resolved_in marks kept before (group.Objects objects) = resolved_objects marks kept before objects
resolved_in marks kept before (group.LinkerScripts scripts) = map (λ s. other (script_file s) s.file_id) scripts
resolved_in marks kept before (group.StubLibraries stubs) = map (λ s. other (stub_file s) s.file_id) stubs
resolved_in marks kept before (group.SyntheticSymbols s) = other (synthetic_file s) s.file_id ∷ []

-- the files of groups one after another, before which there are so many objects
abbrev pub resolved_from : {P : Type 0} → List Bool → IndexedGroups → ℕ → List (Group P) → List (List ResolvedInput)
resolved_from marks kept before [] = []
resolved_from marks kept before (g ∷ gs) = resolved_in marks kept before g ∷ resolved_from marks kept (before + num_objects g) gs
