-- What names are mapped to, and what references stand for, are symbols.
use Rattle.std.proofs.Common.{◌≡◌, ◌∙◌, ◌<◌, ℕ, Bool, true, false, [], length, Option, Some, None, refl, All, cond}
use Rattle.std.specs.Prelude.{IfSome, not, ◌||◌, slice_get}
use Rattle.std.specs.Option.{option_and_then, option_map_or}
use Rattle.std.proofs.lemmas.List.Elements.{All-nil}
use Rattle.link_db_buckets.specs.Keys.{Key}
use Rattle.link_db_files.specs.HeldFiles.{names_in}
use Rattle.link_flags.specs.Pick.{pick}
use Rattle.link_input.specs.declared.platform.Platform.{Ghosts}
use Rattle.link_rules.specs.Places.{Bytes, behind_head}
use Rattle.link_rules.specs.Targets.{beside_in, mapped_in, target_in, unshared_in}
use Rattle.link_db_mapping.specs.declared.symbol_mapping.SymbolMapping.{SymbolMapping}
use Rattle.link_db_mapping.specs.Keys.{plain_key, versioned_key}
use Rattle.link_db_mapping.specs.Mapped.{later_in, mapped_key}
use Rattle.link_db_mapping.proofs.Telling.{all_behind, mapped_told, mapped_within}
use Rattle.link_db_mapping.specs.Seen.{seen}
use Rattle.link_db_lookup.specs.Tables.{name_table_in}
use Rattle.link_db_lookup.proofs.Lookups.{pick-below, unshared-below}

module _ {P : Type 0} {G : Ghosts P} (m : SymbolMapping P G) where
  -- what a key is mapped to
  key-inside : (key : Key) (id : ℕ) → mapped_key (seen m) key ≡ Some id → id < length (names_in m.tables.files)
  key-inside key id is = mapped_within m.tables.files m.tables.overridden.items m.buckets m.named key id (mapped_told m.tables.files m.tables.overridden.items m.buckets m.named key ∙ is)

  -- the later definitions of a symbol's name
  later-inside : (id : ℕ) → All (λ i. i < length (names_in m.tables.files)) (later_in (seen m) id)
  later-inside id = by (slice_get (names_in m.tables.files) id)
    where
      by : (o : Option Bytes) → All (λ i. i < length (names_in m.tables.files)) (option_map_or (λ name. behind_head id ((seen m).lists (plain_key name))) o [])
      by None = All-nil (λ i. i < length (names_in m.tables.files))
      by (Some name) = all_behind (λ i. i < length (names_in m.tables.files)) id ((seen m).lists (plain_key name)) (m.named.listed (plain_key name))

  -- what a name, or a name with a version, is mapped to
  mapped-inside : (name : Bytes) (version : Option Bytes) (id : ℕ) → mapped_in (name_table_in (seen m)) name version ≡ Some id → id < length (names_in m.tables.files)
  mapped-inside name None id is = key-inside (plain_key name) id is
  mapped-inside name (Some version) id is = key-inside (versioned_key name version) id is

  -- what a reference stands for
  pub target-inside : (weak allow : Bool) (name : Bytes) (version : Option Bytes) → IfSome (target_in weak (name_table_in (seen m)) allow name version) (λ id. id < length (names_in m.tables.files))
  target-inside weak allow name version = by_mapped (mapped_in (name_table_in (seen m)) name version) refl
    where
      by_test : (id : ℕ) → id < length (names_in m.tables.files) → (b : Bool)
          → IfSome (cond b (Some id) (pick weak (unshared_in (name_table_in (seen m)) id))) (λ i. i < length (names_in m.tables.files))
      by_test id inside true = inside
      by_test id inside false = pick-below (length (names_in m.tables.files)) weak _ (unshared-below m.tables.files (length (names_in m.tables.files)) (later_in (seen m) id) (later-inside id))

      by_mapped : (o : Option ℕ) → mapped_in (name_table_in (seen m)) name version ≡ o
          → IfSome (option_and_then (beside_in weak (name_table_in (seen m)) allow) o) (λ id. id < length (names_in m.tables.files))
      by_mapped None is = tt
      by_mapped (Some id) is = by_test id (mapped-inside name version id is) (allow || not ((name_table_in (seen m)).is_shared id))
