-- The symbol tables of a made-up link.
use Rattle.std.specs.Prelude.{ℕ, ◌+◌, ◌*◌, ◌%◌, ◌==◌, nat_le, List, [], ◌∷◌, ◌++◌, true, false, None, if◌then◌else◌}
use Rattle.link_flags.specs.declared.visibility.Visibility.TheVariants.{Default}
use Rattle.link_input.specs.declared.symbol_entry.SymbolEntry.{SymbolEntry}
use Rattle.link_input.specs.declared.symbol_entry.SymbolBinding.TheVariants.{Local, Global}
use Rattle.link_input.specs.declared.symbol_entry.SymbolKind.TheVariants.{Plain}
use Rattle.link_input.specs.declared.symbol_entry.Place.{Place}
use Rattle.link_input.specs.declared.symbol_entry.Place.TheVariants.{Undefined, Section}
use Rattle.link_input.specs.declared.object.SectionGroup.{SectionGroup}
use Rattle.link_input.specs.declared.object.ObjectTable.{ObjectTable}
use Rattle.link_manifest_bulk.specs.Names.{main_file, member_file, own_name, shared_name}

-- the entry that stands before all others of a table (ELF gABI, "Symbol Table", index 0)
abbrev pub null_entry : SymbolEntry
null_entry = record { name = []; version = None; is_default = true; binding = Local; visibility = Default; kind = Plain; size = 0; place = Undefined }

-- a global symbol that is plain in all else
abbrev pub global_entry : List ℕ → Place → SymbolEntry
global_entry name place = record { name = name; version = None; is_default = true; binding = Global; visibility = Default; kind = Plain; size = 0; place = place }

-- a reference to what member i defines, if there are so many members
abbrev pub reference_to : ℕ → ℕ → List SymbolEntry
reference_to members i = if nat_le i members then global_entry (own_name i) Undefined ∷ [] else []

-- the references of member i: to members 2i and 2i + 1, but every fifth member has none
abbrev pub references : ℕ → ℕ → List SymbolEntry
references members i = if i % 5 == 0 then [] else reference_to members (2 * i) ++ reference_to members (2 * i + 1)

-- the symbols of member i: its own, the one that it shares, and its references
abbrev pub member_symbols : ℕ → ℕ → List SymbolEntry
member_symbols members i = null_entry ∷ global_entry (own_name i) (Section 1) ∷ global_entry (shared_name i) (Section 2) ∷ references members i

-- a COMDAT group of one section, whose signature is the name that members share
abbrev pub shared_group : SectionGroup
shared_group = record { index = 3; signature_symbol = 2; is_comdat = true; members = 2 ∷ [] }

-- what is read of member i
abbrev pub member_table : ℕ → ℕ → ObjectTable
member_table members i = record { is_dynamic = false; lib_name = member_file i; sections = 4; symbols = member_symbols members i; groups = shared_group ∷ []; section_references = []; retained_sections = [] }

-- what is read of the object that asks for the first member
abbrev pub main_table : ObjectTable
main_table = record { is_dynamic = false; lib_name = main_file; sections = 0; symbols = null_entry ∷ global_entry (own_name 1) Undefined ∷ []; groups = []; section_references = []; retained_sections = [] }
