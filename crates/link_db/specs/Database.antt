-- What a database holds, and what is known of names by it.
use Rattle.std.specs.Prelude.{ℕ, ◌≡◌, ◌<◌, ◌≤◌, List, [], All, None, length}
use Rattle.link_input.specs.declared.options.Options.{Options}
use Rattle.link_rules.specs.Places.{Bytes}
use Rattle.link_rules.specs.Targets.{NameTable}
use Rattle.link_db_texts.specs.ReadTexts.{ReadTexts}
use Rattle.link_db_files.specs.HeldFiles.{names_in}
use Rattle.link_db_lookup.specs.Tables.{name_table_in}
use Rattle.link_db_mapping.specs.Mapped.{Mapped}

-- the options, what the scripts say of names, the number of workers, which symbols define names, and what each symbol points to: nothing while
-- the table is taken
pub record Database (P : Type 0) : Type 0 where
  pub options : Options
  pub rules : ReadTexts
  pub workers : ℕ
  pub mapping : Mapped P
  pub table : List ℕ

-- no file, and no name
abbrev pub no_names : {P : Type 0} → Mapped P
no_names = record { files = record { groups = []; added = [] }; lists = λ _. []; overridden = λ _. None }

-- the names of all symbols, an id being a place here
abbrev pub symbol_names : {P : Type 0} → Database P → List Bytes
symbol_names db = names_in db.mapping.files

-- the table is not taken: it has an entry for each symbol
abbrev pub HasTable : {P : Type 0} → Database P → Type 0
HasTable db = length db.table ≡ length (symbol_names db)

-- numbers within limits, and a table whose entries are ids of symbols
pub record IsSound {P : Type 0} (db : Database P) : Type 0 where
  pub some : 1 ≤ db.workers
  pub few : db.workers ≤ 256
  pub some_files : 1 ≤ db.options.files_per_group
  pub few_files : db.options.files_per_group ≤ 256
  pub within : All (λ entry. entry < length (symbol_names db)) db.table

-- what names are mapped to, and what is known of the symbols by their ids
abbrev pub name_table_of : {P : Type 0} → Database P → NameTable
name_table_of db = name_table_in db.mapping
