-- Words to write small worlds with.
use Rattle.std.specs.Prelude.{ℕ, zero, suc, List, [], ◌∷◌, Bool, true, false, Option, None}
use Rattle.link_flags.specs.declared.visibility.Visibility.{Visibility}
use Rattle.link_flags.specs.declared.visibility.Visibility.TheVariants.{Default}
use Rattle.link_input.specs.declared.symbol_entry.SymbolEntry.{SymbolEntry}
use Rattle.link_input.specs.declared.symbol_entry.Place.{Place}
use Rattle.link_input.specs.declared.symbol_entry.Place.TheVariants.{Undefined, Section}
use Rattle.link_input.specs.declared.symbol_entry.SymbolBinding.{SymbolBinding}
use Rattle.link_input.specs.declared.symbol_entry.SymbolBinding.TheVariants.{Local, Global}
use Rattle.link_input.specs.declared.symbol_entry.SymbolKind.{SymbolKind}
use Rattle.link_input.specs.declared.symbol_entry.SymbolKind.TheVariants.{Plain}
use Rattle.link_input.specs.declared.object.SectionGroup.{SectionGroup}
use Rattle.link_input.specs.declared.options.Options.{Options}
use Rattle.link_input.specs.declared.internal_symbols.InternalSymDefInfo.{InternalSymDefInfo}
use Rattle.link_input.specs.declared.internal_symbols.RedirectKind.{RedirectKind}
use Rattle.link_input.specs.declared.internal_symbols.SymbolLoc.TheVariants as loc
use Rattle.link_input.specs.declared.internal_symbols.SymbolPlacement.{SymbolPlacement}
use Rattle.link_input.specs.declared.internal_symbols.SymbolPlacement.TheVariants as placement
use Rattle.link_input.specs.declared.world.ProcessedLinkerScript.{ProcessedLinkerScript}
use Rattle.link_input.specs.declared.world.StubLibrary.{StubLibrary}
use Rattle.link_input.specs.declared.world.Scripts.{Scripts}
use Rattle.link_input.specs.ObjectFile.{ObjectFile}
use Rattle.link_rules.specs.Places.{Bytes}
use Rattle.link_rules.specs.World.{Given}

-- the demangler that shows each name as it is
abbrev pub undemangled : Bytes → Bytes
undemangled name = name

-- an entry of a symbol table
abbrev pub entry : Bytes → Option Bytes → Bool → SymbolBinding → Visibility → SymbolKind → ℕ → Place → SymbolEntry
entry name version is_default binding visibility kind size place =
    record { name = name; version = version; is_default = is_default; binding = binding; visibility = visibility; kind = kind; size = size; place = place }

-- the entry that stands for no symbol (ELF gABI, "Symbol Table", index 0)
abbrev pub null_entry : SymbolEntry
null_entry = entry [] None true Local Default Plain 0 Undefined

-- a strong reference
abbrev pub refers : Bytes → SymbolEntry
refers name = entry name None true Global Default Plain 0 Undefined

-- a strong definition in a section
abbrev pub defines : Bytes → ℕ → SymbolEntry
defines name section = entry name None true Global Default Plain 0 (Section section)

-- a section group: its header, the place of its signature symbol, whether it is a COMDAT group, and its members
abbrev pub group : ℕ → ℕ → Bool → List ℕ → SectionGroup
group header signature is_comdat members =
    record { index = header; signature_symbol = signature; is_comdat = is_comdat; members = members }

-- a file: its name, whether it is shared, how it was named, how many sections it has, its entries and its groups
abbrev pub file : Bytes → Bool → Bool → Bool → Bool → ℕ → List SymbolEntry → List SectionGroup → ObjectFile
file name is_dynamic archive whole_archive as_needed sections symbols groups = record {
  input = name;
  object = record { is_dynamic = is_dynamic; lib_name = name; sections = sections; symbols = symbols; groups = groups; section_references = []; retained_sections = [] };
  modifiers = record { archive = archive; whole_archive = whole_archive; as_needed = as_needed };
}

-- a regular object; this and the next two have four sections and a null entry
abbrev pub object : Bytes → List SymbolEntry → ObjectFile
object name symbols = file name false false false false 4 (null_entry ∷ symbols) []

-- a member of an archive
abbrev pub member : Bytes → List SymbolEntry → ObjectFile
member name symbols = file name false true false false 4 (null_entry ∷ symbols) []

-- a shared object
abbrev pub shared : Bytes → List SymbolEntry → ObjectFile
shared name symbols = file name true false false false 4 (null_entry ∷ symbols) []

-- a symbol of the linker itself
abbrev pub internal : Bytes → SymbolPlacement → Bool → InternalSymDefInfo
internal name placement hidden = record { placement = placement; name = name; hidden = hidden }

-- a symbol that refers to other names
abbrev pub redirect : Bytes → RedirectKind → List Bytes → Bool → InternalSymDefInfo
redirect name kind targets hidden =
    internal name (placement.Redirect (record { kind = kind; targets = targets; loc = loc.None })) hidden

-- a linker script: its file, its entry, its version text and its symbols
abbrev pub linker_script : Bytes → Option Bytes → Option Bytes → List InternalSymDefInfo → ProcessedLinkerScript
linker_script name entry version symbols = record { input = name; entry = entry; version = version; symbol_defs = symbols }

-- a stub library: its file, its strong names and its weak ones
abbrev pub stub : Bytes → List Bytes → List Bytes → StubLibrary
stub name strong weak = record { input = name; strong = strong; weak = weak }

-- so many times the same
abbrev pub copies : {X : Type 0} → ℕ → X → List X
copies zero x = []
copies (suc n) x = x ∷ copies n x

-- the texts of the version script and of the export list
abbrev pub texts : Option Bytes → Option Bytes → Scripts
texts version_script export_list = record { version_script = version_script; export_list = export_list }

-- one batch of objects alone
abbrev pub of_objects : Options → List ObjectFile → Given
of_objects options objects = record {
  first = record { objects = objects; scripts = []; stubs = [] };
  later = [];
  options = options;
  texts = texts None None;
}
