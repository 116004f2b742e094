-- What a version script of the Rust form makes of flags.
use Rattle.std.specs.Prelude.{ℕ, List, filter_map, map, Option, Some, None}
use Rattle.std.specs.Option.{option_to_list}
use Rattle.link_db_mapping.specs.Mapped.{mapping_of}
use Rattle.link_rules.specs.Places.{Bytes, each_from}
use Rattle.link_rules.specs.Rivals.{two_steps}
use Rattle.link_rules.specs.Visibility.{rust_flags}
use Rattle.link_db.specs.Database.{Database}

-- what a name stands for, if it is mapped
abbrev pub freed_by : {P : Type 0} → Database P → Bytes → List ℕ
freed_by db name = map (two_steps db.table) (option_to_list (mapping_of db.mapping name))

-- what names stand for
abbrev pub freed_symbols : {P : Type 0} → Database P → List Bytes → List ℕ
freed_symbols db names = map (two_steps db.table) (filter_map (mapping_of db.mapping) names)

-- the flags that a script of the Rust form changes, if there is one
abbrev pub flags_by_script : {P : Type 0} → Database P → Option (List Bytes) → List ℕ → List ℕ
flags_by_script db None flags = flags
flags_by_script db (Some names) flags = each_from (rust_flags (freed_symbols db names)) 0 flags
