-- Small tables, for worked examples.
use Rattle.std.specs.Prelude.{ℕ, List, [], true, false, None, codes}
use Rattle.link_flags.specs.declared.visibility.Visibility.TheVariants.{Default}
use Rattle.link_input.specs.declared.symbol_entry.SymbolEntry.{SymbolEntry}
use Rattle.link_input.specs.declared.symbol_entry.Place.{Place}
use Rattle.link_input.specs.declared.symbol_entry.Place.TheVariants.{Undefined as Nowhere, Section}
use Rattle.link_input.specs.declared.symbol_entry.SymbolBinding.{SymbolBinding}
use Rattle.link_input.specs.declared.symbol_entry.SymbolBinding.TheVariants.{Local, Global}
use Rattle.link_input.specs.declared.symbol_entry.SymbolKind.TheVariants.{Plain}
use Rattle.link_input.specs.declared.object.SectionGroup.{SectionGroup}
use Rattle.link_input.specs.declared.object.SectionReference.{SectionReference}
use Rattle.link_input.specs.declared.object.ObjectTable.{ObjectTable}

-- an entry of no version
abbrev pub entry_of : List ℕ → SymbolBinding → Place → SymbolEntry
entry_of name binding place = record { name = name; version = None; is_default = true; binding = binding; visibility = Default; kind = Plain; size = 0; place = place }

-- the null entry
abbrev pub no_symbol : SymbolEntry
no_symbol = entry_of [] Local Nowhere

-- a local symbol that is undefined
abbrev pub undefined_local : SymbolEntry
undefined_local = entry_of (codes "x") Local Nowhere

-- a global symbol that is undefined
abbrev pub undefined_global : SymbolEntry
undefined_global = entry_of (codes "g") Global Nowhere

-- a global symbol in a section
abbrev pub defined_in : ℕ → SymbolEntry
defined_in section = entry_of (codes "f") Global (Section section)

-- a COMDAT group of a header and members, whose signature is symbol 1
abbrev pub group_of : ℕ → List ℕ → SectionGroup
group_of header members = record { index = header; signature_symbol = 1; is_comdat = true; members = members }

-- the table of a regular object
abbrev pub table_of : ℕ → List SymbolEntry → List SectionGroup → ObjectTable
table_of sections symbols groups = record { is_dynamic = false; lib_name = codes "a.o"; sections = sections; symbols = symbols; groups = groups; section_references = []; retained_sections = [] }

-- a section refers to a symbol
abbrev pub reference_of : ℕ → ℕ → SectionReference
reference_of section symbol = record { from = section; to = symbol }

-- a table of sections that refer to symbols, of which some are retained
abbrev pub referring : List SectionReference → List ℕ → ObjectTable → ObjectTable
referring references retained t = record t { section_references = references; retained_sections = retained }
