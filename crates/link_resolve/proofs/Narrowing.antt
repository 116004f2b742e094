-- What a version script of the Rust form makes of flags.
use Rattle.std.proofs.Common.{◌≡◌, ◌∙◌, ℕ, List, Option, Some, None, ap, filter_map, map, refl}
use Rattle.link_db_mapping.specs.Mapped.{mapping_of}
use Rattle.link_rules.specs.Marking.{marked_flags}
use Rattle.link_rules.specs.Names.{Mapping, first_definition}
use Rattle.link_rules.specs.Places.{Bytes, each_from}
use Rattle.link_rules.specs.Rivals.{two_steps, versioned_table}
use Rattle.link_rules.specs.Selection.{Selection}
use Rattle.link_rules.specs.Visibility as rules
use Rattle.link_rules.specs.Visibility.{narrowed_symbol, rust_definitions, rust_flags}
use Rattle.link_db.specs.Database.{Database}
use Rattle.link_db.specs.RustScript.{flags_by_script, freed_symbols}
use Rattle.link_resolve.specs.Known.{Known}
use Rattle.link_resolve.specs.Settled.{IsSettled}

-- what the listed names stand for in a database is what they stand for in the selection
freed-are : {P : Type 0} (db : Database P) (known : Known) (l : Selection) (names : List Bytes) → IsSettled db known l → db.table ≡ versioned_table l → freed_symbols db names ≡ rust_definitions l names
freed-are db known l names is table =
    let mapping : mapping_of db.mapping ≡ first_definition l.stage = λ i. λ name. is.names name i in
    ap (λ (entries : List ℕ). map (two_steps entries) (filter_map (mapping_of db.mapping) names)) table
    ∙ ap (λ (m : Mapping). map (two_steps (versioned_table l)) (filter_map m names)) mapping

-- so both make the same of flags
pub rust-narrows : {P : Type 0} (db : Database P) (known : Known) (l : Selection) (names : Option (List Bytes)) → IsSettled db known l → db.table ≡ versioned_table l
    → flags_by_script db names (each_from (narrowed_symbol l.stage (marked_flags l)) 0 l.stage.symbols) ≡ rules.flags_by_script l names (each_from (narrowed_symbol l.stage (marked_flags l)) 0 l.stage.symbols)
rust-narrows db known l None is table = refl
rust-narrows db known l (Some names) is table =
    ap (λ (listed : List ℕ). each_from (rust_flags listed) 0 (each_from (narrowed_symbol l.stage (marked_flags l)) 0 l.stage.symbols)) (freed-are db known l names is table)
