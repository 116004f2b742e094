-- A symbol that the linker makes.
use Rattle.std.specs.Prelude.{ℕ, [], ◌∷◌, ◌++◌, length}
use Rattle.link_db_files.specs.Adding.{with_symbol}
use Rattle.link_db_mapping.specs.Changes.{listed_under, listing_name}
use Rattle.link_db_mapping.specs.Mapped.{Mapped}
use Rattle.link_rules.specs.Places.{Bytes}
use Rattle.link_db.specs.Database.{Database, symbol_names}

-- the symbol is listed under the name of the symbol to which its name is mapped, if it is, and else under its own
abbrev pub with_listed_symbol : {P : Type 0} → Bytes → ℕ → Mapped P → Mapped P
with_listed_symbol name id m = record { files = with_symbol m.files name; lists = listed_under (listing_name m name) id m.lists; overridden = m.overridden }

-- a symbol of this name more, which points to itself
abbrev pub with_linker_symbol : {P : Type 0} → Bytes → Database P → Database P
with_linker_symbol name db = record db {
  mapping = with_listed_symbol name (length (symbol_names db)) db.mapping;
  table = db.table ++ length (symbol_names db) ∷ [];
}
