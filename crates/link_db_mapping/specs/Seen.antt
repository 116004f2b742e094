-- What a mapping of symbols says.
use Rattle.std.specs.Prelude.{List, ℕ, Option, slice_get}
use Rattle.link_db_buckets.specs.declared.buckets.Buckets.{Buckets}
use Rattle.link_db_buckets.specs.Buckets.{definitions_at, overridden_at}
use Rattle.link_db_files.specs.HeldFiles.{HeldFiles}
use Rattle.link_input.specs.declared.platform.Platform.{Ghosts}
use Rattle.link_db_mapping.specs.declared.symbol_mapping.SymbolMapping.{SymbolMapping}
use Rattle.link_db_mapping.specs.Keys.{plain_key}
use Rattle.link_db_mapping.specs.Mapped.{Mapped}
use Rattle.link_db_mapping.specs.Tables.{key_at}

-- files, and what buckets say under the names of their symbols and under names that are held beside them
abbrev pub told_by : {P : Type 0} → HeldFiles P → List (List ℕ) → Buckets → Mapped P
told_by held names buckets = record {
  files = held;
  lists = λ key. definitions_at (key_at held names) buckets key;
  overridden = λ name. overridden_at (key_at held names) buckets (plain_key name);
}

-- its files, and what its buckets say under the names of its tables
abbrev pub seen : {P : Type 0} {G : Ghosts P} → SymbolMapping P G → Mapped P
seen m = told_by m.tables.files m.tables.overridden.items m.buckets

-- the name that is held at this place beside those of the files
abbrev pub held_at : {P : Type 0} {G : Ghosts P} → SymbolMapping P G → ℕ → Option (List ℕ)
held_at m place = slice_get m.tables.overridden.items place
