-- How all symbols of files are gone through.
use Rattle.std.specs.Prelude.{ℕ, ◌≡◌, ◌+◌, ◌<◌, ◌≤◌, ◌^◌, List, [], ◌∷◌, ◌++◌, Option, Some, None, MatchOption, drop, filter, length, map, take}
use Rattle.std.specs.List.{enumerate_from, filter_map, flat_map}
use Rattle.link_input.specs.InputFiles.{InputFile, prelude, object, linker_script, stub_library, synthetic}
use Rattle.link_input.specs.ObjectFile.{ObjectFile}
use Rattle.link_input.specs.SequencedFiles.{SequencedFile}
use Rattle.link_input.specs.Symbols.{Symbol, file_symbols, object_in, symbols_of}
use Rattle.link_input_groups.specs.declared.group.Group.{Group}
use Rattle.link_input_groups.specs.declared.sequenced_input.SequencedInput.{SequencedInput}
use Rattle.link_input_groups.specs.Groups.{files_of}
use Rattle.link_input_groups.specs.SequencedInputs.{sequenced_file}
use Rattle.link_db_files.specs.Inputs.{object_of}
use Rattle.link_rules.specs.Places.{is_number}

-- the files of groups that are left, of which those of the first group before this place are done
abbrev pub files_from : {P : Type 0} → ℕ → List (Group P) → List SequencedFile
files_from place [] = []
files_from place (g ∷ gs) = drop place (files_of g) ++ flat_map files_of gs

-- the symbols of a file, before which there are so many objects; where there is no file there is none
abbrev pub symbols_of_file : {P : Type 0} → ℕ → Option (SequencedInput P) → List Symbol
symbols_of_file objects None = []
symbols_of_file objects (Some f) = file_symbols objects (sequenced_file f).file

-- files without their ids
abbrev pub without_ids : List SequencedFile → List InputFile
without_ids files = map (λ f. f.file) files

-- the objects among files
abbrev pub objects_among : List SequencedFile → List ObjectFile
objects_among files = filter_map (λ f. object_of f.file) files

-- the symbols that are left of a file, and those of the files behind it, before which there are so many objects
abbrev pub symbols_left : List Symbol → ℕ → List SequencedFile → List Symbol
symbols_left own objects files = own ++ symbols_of objects (without_ids files)

-- the symbols that are left, and the id of the first of them
pub record SymbolsLeft : Type 0 where
  pub next : ℕ
  pub left : List Symbol

-- the symbols that are left, each with its id
abbrev pub with_ids : SymbolsLeft → List (ℕ × Symbol)
with_ids s = enumerate_from s.next s.left

-- so many of them, from this place on
abbrev pub part_of : SymbolsLeft → ℕ → ℕ → SymbolsLeft
part_of s start count = record { next = s.next + start; left = take count (drop start s.left) }

-- the symbols of a file, if it is an object, before which there are so many objects and symbols
abbrev pub own_symbols : ℕ → ℕ → InputFile → List SymbolsLeft
own_symbols n s (prelude symbols) = []
own_symbols n s (object o) = record { next = s; left = file_symbols n (object o) } ∷ []
own_symbols n s (linker_script script) = []
own_symbols n s (stub_library input symbols) = []
own_symbols n s synthetic = []

-- those of all symbols that stand in the object at this place, each with its id
abbrev pub symbols_of_object : ℕ → List Symbol → List (ℕ × Symbol)
symbols_of_object f symbols = filter (λ s. is_number (object_in s.1.origin) f) (enumerate_from 0 symbols)

-- ids can name these symbols, and the objects can be counted
pub record CanBeNumbered (symbols : SymbolsLeft) (objects : ℕ) (files : List SequencedFile) : Type 0 where
  pub ids : symbols.next + length symbols.left ≤ 2 ^ 32
  pub places : objects + length (objects_among files) < 2 ^ 64

-- the first symbol that is left comes with its id, and the others are left; none comes where none is left, and none is left then
abbrev pub GivesFirst : SymbolsLeft → Option (ℕ × Symbol) → SymbolsLeft → Type 0
GivesFirst s r t = MatchOption r ((s.left ≡ []) × (t.left ≡ []))
    (λ x. (x.0 ≡ s.next) × ((s.left ≡ x.1 ∷ t.left) × (t.next ≡ s.next + 1)))
