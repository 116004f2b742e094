-- A chain: an object, and an archive of so many members, each of which refers to what the next one defines.
use Rattle.std.specs.Prelude.{ℕ, ◌+◌, ◌==◌, nat_lt, List, [], ◌∷◌, ◌++◌, codes, decimal, map, false, None, if◌then◌else◌}
use Rattle.std.specs.List.{range_with_len}
use Rattle.link_input.specs.declared.object.ObjectTable.{ObjectTable}
use Rattle.link_input.specs.declared.symbol_entry.Place.TheVariants.{Undefined, Section}
use Rattle.link_input.specs.declared.symbol_entry.SymbolEntry.{SymbolEntry}
use Rattle.link_input.specs.ObjectFile.{ObjectFile}
use Rattle.link_manifest.specs.declared.manifest.Manifest.{Manifest}
use Rattle.link_manifest_bulk.specs.Bulk.{archived_object, manifest_with, required_object}
use Rattle.link_manifest_bulk.specs.Names.{main_file, member_file}
use Rattle.link_manifest_bulk.specs.Tables.{global_entry, null_entry}

-- the name that member i defines
abbrev pub chained_name : ℕ → List ℕ
chained_name i = codes "t" ++ decimal i

-- the reference of member i of so many: to what the next one defines, if there is one
abbrev pub reference_on : ℕ → ℕ → List SymbolEntry
reference_on members i = if nat_lt i members then global_entry (chained_name (i + 1)) Undefined ∷ [] else []

-- what is read of the object that asks for the first member
abbrev pub chain_start_table : ObjectTable
chain_start_table = record { is_dynamic = false; lib_name = main_file; sections = 0; symbols = null_entry ∷ global_entry (chained_name 1) Undefined ∷ []; groups = []; section_references = []; retained_sections = [] }

-- what is read of member i of so many
abbrev pub chain_member_table : ℕ → ℕ → ObjectTable
chain_member_table members i =
    record { is_dynamic = false; lib_name = member_file i; sections = 2; symbols = null_entry ∷ global_entry (chained_name i) (Section 1) ∷ reference_on members i; groups = []; section_references = []; retained_sections = [] }

-- the object at a place: the one that is linked in any case, and behind it the members from 1 on
abbrev pub chain_object : ℕ → ℕ → ObjectFile
chain_object members place = if place == 0 then required_object chain_start_table else archived_object place (chain_member_table members place)

-- all objects
abbrev pub chain_objects : ℕ → List ObjectFile
chain_objects members = map (chain_object members) (range_with_len 0 (members + 1))

-- what is linked
abbrev pub chain_manifest : ℕ → Manifest
chain_manifest members = manifest_with (chain_objects members)
