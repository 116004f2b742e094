-- A symbol with all that is known of it, as it is shown.
use Rattle.std.specs.Prelude.{ℕ, List, [], ◌++◌, ◌==◌, ◌||◌, codes, decimal, if◌then◌else◌}
use Rattle.link_ids.specs.FilePlace.{FilePlace, file_text}
use Rattle.link_flags.specs.FlagText.{flags_text}
use Rattle.link_input_groups.specs.GroupText as input
use Rattle.link_input_groups.specs.SequencedInputs.{sequenced_file}
use Rattle.link_input.specs.InputFiles.{InputFile}
use Rattle.link_db_display.specs.declared.symbol_debug.SymbolPlace.{SymbolPlace}
use Rattle.link_db_display.specs.declared.symbol_debug.SymbolDebug.{SymbolDebug}
use Rattle.link_db_display.specs.SymbolText.{undefined_text, what_text}

-- a file: its number, and the name of its input
abbrev pub in_file_text : FilePlace → InputFile → List ℕ
in_file_text id file = codes " in file #" ++ (file_text id ++ (codes " (" ++ (input.file_text file ++ codes ")")))

-- where a symbol stands
abbrev pub place_text : {P : Type 0} → SymbolPlace P → List ℕ
place_text s = (codes " (" ++ (decimal s.id ++ (codes " local=" ++ (decimal s.offset ++ codes ")"))))
    ++ in_file_text s.file_id (sequenced_file s.file).file

-- the definition, where it is another symbol and not the undefined one
abbrev pub defined_text : {P : Type 0} → ℕ → SymbolPlace P → List ℕ
defined_text id d =
    if d.id == 0 || d.id == id then [] else (codes " defined as " ++ decimal d.id) ++ in_file_text d.file_id (sequenced_file d.file).file

-- its own flags
abbrev pub own_flags_text : ℕ → List ℕ
own_flags_text flags = codes " (" ++ (flags_text flags ++ codes ")")

-- a symbol with its file, its definition and its flags
abbrev pub debug_text : {P : Type 0} → SymbolDebug P → List ℕ
debug_text s = undefined_text (s.definition.id == 0)
    ++ (what_text s.name (sequenced_file s.place.file).file s.section
    ++ (place_text s.place ++ (defined_text s.place.id s.definition ++ own_flags_text s.flags.0)))
