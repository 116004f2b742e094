-- The names that the symbols of a link ask for, by their hash numbers.
use Rattle.std.specs.Prelude.{ℕ, ◌&&◌, Bool, false, List, Option, Some, None, map, not, if◌then◌else◌}
use Rattle.std.specs.List.{flat_map}
use Rattle.link_db_buckets.specs.Keys.{hash_of}
use Rattle.link_input.specs.declared.symbol_entry.SymbolEntry.{SymbolEntry}
use Rattle.link_input.specs.Entries.{is_local, is_undefined}
use Rattle.link_input.specs.InputFiles.{InputFile}
use Rattle.link_input.specs.Symbols.{Symbol, entry_passes, file_symbols}
use Rattle.link_input_groups.specs.declared.group.Group.{Group}
use Rattle.link_input_groups.specs.Groups.{files_of}

-- it is undefined in its object and isn't local: among undefined entries only the null entry is (ELF gABI, "Symbol Table", index 0)
abbrev pub is_asking : Symbol → Bool
is_asking x = entry_passes (λ e. is_undefined e.place && not (is_local e.binding)) x.origin

-- the hash number by which the name that it asks for is found, where it asks for one
abbrev pub asked_number : Symbol → Option ℕ
asked_number x = if is_asking x then Some (hash_of (record { name = x.name; version = x.version })) else None

-- those of all symbols
abbrev pub asked_numbers_of : List Symbol → List (Option ℕ)
asked_numbers_of symbols = map asked_number symbols

-- that of an entry of an object
abbrev pub entry_asked : SymbolEntry → Option ℕ
entry_asked e = if is_undefined e.place && not (is_local e.binding) then Some (hash_of (record { name = e.name; version = e.version })) else None

-- those of the symbols of a file, which don't depend on how many objects there are before it
abbrev pub file_asked : InputFile → List (Option ℕ)
file_asked f = asked_numbers_of (file_symbols 0 f)

-- those of the files of a group, in order
abbrev pub group_asked : {P : Type 0} → Group P → List (Option ℕ)
group_asked g = flat_map (λ f. file_asked f.file) (files_of g)

-- those of the files of groups, in order
abbrev pub groups_asked : {P : Type 0} → List (Group P) → List (Option ℕ)
groups_asked groups = flat_map group_asked groups
