-- The entries of a symbol table that is kept in columns.
use Rattle.std.specs.Prelude.{ℕ, ◌≡◌, Bool, true, List, [], get_or, length, map, Option, None, Some, option_map, All}
use Rattle.std.specs.List.{zip}
use Rattle.link_flags.specs.declared.visibility.Visibility.{Visibility}
use Rattle.link_flags.specs.declared.visibility.Visibility.TheVariants.{Default}
use Rattle.link_input.specs.declared.symbol_entry.SymbolEntry.{SymbolEntry}
use Rattle.link_input.specs.declared.symbol_entry.SymbolBinding.{SymbolBinding}
use Rattle.link_input.specs.declared.symbol_entry.SymbolBinding.TheVariants.{Local}
use Rattle.link_input.specs.declared.symbol_entry.SymbolKind.{SymbolKind}
use Rattle.link_input.specs.declared.symbol_entry.SymbolKind.TheVariants.{Plain}
use Rattle.link_input.specs.declared.symbol_entry.Place.{Place}
use Rattle.link_input.specs.declared.symbol_entry.Place.TheVariants.{Undefined}
use Rattle.link_input.specs.declared.name_block.Span.{Span}
use Rattle.link_input.specs.declared.symbol_columns.SymbolColumns.TheInside.{Inside}
use Rattle.link_input.specs.NameBlock.{bytes_at, IsInside}

-- the fields of an entry, in their order
abbrev pub Fields : Type 0
Fields = List ℕ × (Option (List ℕ) × (Bool × (SymbolBinding × (Visibility × (SymbolKind × (ℕ × Place))))))

-- the entry of some fields
abbrev pub entry_of : Fields → SymbolEntry
entry_of (name, (version, (is_default, (binding, (visibility, (kind, (size, place))))))) =
    record { name = name; version = version; is_default = is_default; binding = binding; visibility = visibility; kind = kind; size = size; place = place }

-- the entries whose fields stand at the same places of these lists
abbrev pub side_by_side : List (List ℕ) → List (Option (List ℕ)) → List Bool → List SymbolBinding → List Visibility → List SymbolKind → List ℕ → List Place → List SymbolEntry
side_by_side names versions defaults bindings visibilities kinds sizes places =
    map entry_of (zip names (zip versions (zip defaults (zip bindings (zip visibilities (zip kinds (zip sizes places)))))))

-- the entries of columns, their names and versions read in the block
abbrev pub entries_of : Inside → List SymbolEntry
entries_of c =
    side_by_side (map (bytes_at c.block.items) c.names.items) (map (option_map (bytes_at c.block.items)) c.versions.items)
    c.defaults.items c.bindings.items c.visibilities.items c.kinds.items c.sizes.items c.places.items

-- each column has a field for each name, and each name and version lies in the block
pub record AreColumns (c : Inside) : Type 0 where
  pub names_inside : All (IsInside c.block.items) c.names.items
  pub versions_inside : All (λ (version : Option Span). (span : Span) → version ≡ Some span → IsInside c.block.items span) c.versions.items
  pub versions : length c.versions.items ≡ length c.names.items
  pub defaults : length c.defaults.items ≡ length c.names.items
  pub bindings : length c.bindings.items ≡ length c.names.items
  pub visibilities : length c.visibilities.items ≡ length c.names.items
  pub kinds : length c.kinds.items ≡ length c.names.items
  pub sizes : length c.sizes.items ≡ length c.names.items
  pub places : length c.places.items ≡ length c.names.items

-- the null entry (ELF gABI, "Symbol Table", index 0)
abbrev pub null_entry : SymbolEntry
null_entry = record { name = []; version = None; is_default = true; binding = Local; visibility = Default; kind = Plain; size = 0; place = Undefined }

-- the entry at a place; there is one at each place of a table
abbrev pub entry_at : List SymbolEntry → ℕ → SymbolEntry
entry_at es i = get_or es i null_entry
