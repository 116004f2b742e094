-- How groups and files are shown.
use Rattle.std.specs.Prelude.{ℕ, List, ◌++◌, codes, decimal, length}
use Rattle.link_names.specs.NameText.{name_text}
use Rattle.link_input_groups.specs.declared.group.Group.{Group}
use Rattle.link_input_groups.specs.declared.group.Group.TheVariants as group
use Rattle.link_input.specs.InputFiles.{InputFile, prelude, object, linker_script, stub_library, synthetic}
use Rattle.link_input.specs.Limits.{total}

-- how many objects there are, and how many symbols they have
abbrev pub objects_text : ℕ → ℕ → List ℕ
objects_text objects symbols = codes "num_objects: " ++ (decimal objects ++ (codes " num_symbols: " ++ decimal symbols))

-- a group by what it holds
abbrev pub group_text : {P : Type 0} → Group P → List ℕ
group_text (group.Prelude symbols) = codes "<prelude>"
group_text (group.Objects objects) = objects_text (length objects) (total (λ o. o.symbol_id_range.len) objects)
group_text (group.LinkerScripts scripts) = decimal (length scripts) ++ codes " linker script(s)"
group_text (group.StubLibraries stubs) = decimal (length stubs) ++ codes " Mach-O stub library(s)"
group_text (group.SyntheticSymbols s) = codes "<epilogue>"

-- a file by the name of its input
abbrev pub file_text : InputFile → List ℕ
file_text (prelude symbols) = codes "<prelude>"
file_text (object o) = name_text o.input
file_text (linker_script s) = name_text s.input
file_text (stub_library input symbols) = name_text input
file_text synthetic = codes "<epilogue>"
