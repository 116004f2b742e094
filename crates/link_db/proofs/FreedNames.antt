-- What names stand for is local no more.
use Rattle.std.proofs.Common.{◌≡◌, ℕ, List, ◌∷◌, map, Option, Some, None, ap}
use Rattle.std.specs.Prelude.{filter_map}
use Rattle.std.specs.List.{cons_option}
use Rattle.std.specs.Option.{option_to_list}
use Rattle.link_db_mapping.specs.Mapped.{mapping_of}
use Rattle.link_rules.specs.Places.{Bytes, each_from}
use Rattle.link_rules.specs.Rivals.{two_steps}
use Rattle.link_db.specs.Database.{Database}
use Rattle.link_db.specs.RustForm.{freed}
use Rattle.link_db.specs.RustScript.{freed_by, freed_symbols}
use Rattle.link_db.proofs.Freed.{freed-more, freed-none}

-- one name more
pub freed-named : {P : Type 0} (db : Database P) (name : Bytes) (names : List Bytes) (ws : List ℕ)
    → each_from (freed (freed_symbols db names)) 0 (each_from (freed (freed_by db name)) 0 ws) ≡ each_from (freed (freed_symbols db (name ∷ names))) 0 ws
freed-named db name names ws = by (mapping_of db.mapping name)
  where
    by : (o : Option ℕ) → each_from (freed (freed_symbols db names)) 0 (each_from (freed (map (two_steps db.table) (option_to_list o))) 0 ws)
        ≡ each_from (freed (map (two_steps db.table) (cons_option o (filter_map (mapping_of db.mapping) names)))) 0 ws
    by None = ap (each_from (freed (freed_symbols db names)) 0) (freed-none 0 ws)
    by (Some id) = freed-more (two_steps db.table id) (freed_symbols db names) 0 ws
