-- What is known of names and symbols, as the rules of a link ask for it.
use Rattle.link_rules.specs.Targets.{NameTable}
use Rattle.link_db_files.specs.HeldFiles.{is_shared_in, strength_of}
use Rattle.link_db_mapping.specs.Keys.{versioned_key}
use Rattle.link_db_mapping.specs.Mapped.{Mapped, later_in, mapped_key, mapping_of}

-- what names are mapped to, and what is known of the symbols by their ids
abbrev pub name_table_in : {P : Type 0} → Mapped P → NameTable
name_table_in m = record {
  plain = mapping_of m;
  versioned = λ name version. mapped_key m (versioned_key name version);
  later = later_in m;
  is_shared = is_shared_in m.files;
  strength = strength_of m.files;
}
