-- The texts by which symbols are shown.
use Rattle.std.specs.Prelude.{ℕ, Bool, List, [], ◌++◌, ◌==◌, codes, decimal, length, Option, Some, None, if◌then◌else◌}
use Rattle.std.specs.Str.{is_utf8}
use Rattle.link_names.specs.NameText.{name_text}
use Rattle.link_input.specs.InputFiles.{InputFile, prelude, object, linker_script, stub_library, synthetic}

-- a name, demangled where there is a demangler and the name is text
abbrev pub shown_name : Option (List ℕ → List ℕ) → List ℕ → List ℕ
shown_name None name = name_text name
shown_name (Some demangled) name = if is_utf8 name then demangled name else name_text name

-- what a symbol of an object is that has no name: its section, by its number
abbrev pub section_text : Option ℕ → List ℕ
section_text None = codes "<unnamed symbol>"
section_text (Some number) = codes "section " ++ decimal number

-- what a symbol without a name is: by its file, and in an object by its section
abbrev pub unnamed_text : InputFile → Option ℕ → List ℕ
unnamed_text (prelude symbols) section = codes "<unnamed internal symbol>"
unnamed_text (object o) section = section_text section
unnamed_text (linker_script s) section = codes "Symbol from linker script `" ++ (name_text s.input ++ codes "`")
unnamed_text (stub_library input symbols) section = codes "<unnamed Mach-O stub library symbol from `" ++ (name_text input ++ codes "`>")
unnamed_text synthetic section = codes "<unnamed custom-section symbol>"

-- what a symbol is: its name, or what it is without one
abbrev pub what_text : List ℕ → InputFile → Option ℕ → List ℕ
what_text name file section =
    if length name == 0 then unnamed_text file section else codes "symbol `" ++ (name_text name ++ codes "`")

-- that nothing defines it
abbrev pub undefined_text : Bool → List ℕ
undefined_text is_undefined = if is_undefined then codes "undefined " else []
