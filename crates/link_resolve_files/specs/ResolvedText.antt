-- How files are shown, once it is known which objects are loaded.
use Rattle.std.specs.Prelude.{ℕ, List, codes}
use Rattle.link_names.specs.NameText.{name_text}
use Rattle.link_input.specs.InputFiles.{InputFile, prelude, object, linker_script, stub_library, synthetic}
use Rattle.link_resolve_files.specs.ResolvedFiles.{ResolvedInput, not_loaded, regular, other}

-- a file that is linked, by the name of its input
abbrev pub linked_text : InputFile → List ℕ
linked_text (prelude symbols) = codes "<prelude>"
linked_text (object o) = name_text o.input
linked_text (linker_script s) = name_text s.input
linked_text (stub_library input symbols) = name_text input
linked_text synthetic = codes "<synthetic>"

-- a file, linked or not
abbrev pub resolved_text : ResolvedInput → List ℕ
resolved_text (not_loaded symbols sections) = codes "<not loaded>"
resolved_text (regular file id groups) = linked_text file.file
resolved_text (other file id) = linked_text file.file
