-- The names that tables hold, and what buckets say of them.
use Rattle.std.specs.Prelude.{◌≡◌, ◌<◌, ℕ, List, All, IsTrue, Option, None, Some, is_some, length, option_map, slice_get}
use Rattle.std.specs.List.{list_any}
use Rattle.std.specs.Option.{option_and_then}
use Rattle.std.specs.Str.{bytes_eq}
use Rattle.link_db_buckets.specs.declared.buckets.Buckets.{Buckets}
use Rattle.link_db_buckets.specs.declared.label.Label.{Label}
use Rattle.link_db_buckets.specs.declared.label.Label.TheVariants.{Plain, Versioned, Added}
use Rattle.link_db_buckets.specs.Buckets.{AreKeyed, definitions_at, overridden_at}
use Rattle.link_db_buckets.specs.Keys.{Key}
use Rattle.link_db_files.specs.HeldFiles.{HeldFiles, names_in, version_of}
use Rattle.link_db_mapping.specs.Keys.{plain_key, versioned_key}

-- the name, and version, to which a label leads: those of the symbol of this id, or the name at this place of those that were held beside the files
abbrev pub key_at : {P : Type 0} → HeldFiles P → List (List ℕ) → Label → Option Key
key_at held names (Plain id) = option_map plain_key (slice_get (names_in held) id)
key_at held names (Versioned id) = option_and_then (λ name. option_map (versioned_key name) (version_of held id)) (slice_get (names_in held) id)
key_at held names (Added place) = option_map plain_key (slice_get names place)

-- the name is one of these
abbrev pub is_one_of : List (List ℕ) → List ℕ → Type 0
is_one_of names name = IsTrue (list_any (bytes_eq name) names)

-- the buckets are those of these names; what is overridden is a plain name that is held, and each id is that of a symbol
pub record AreNamed {P : Type 0} (held : HeldFiles P) (names : List (List ℕ)) (buckets : Buckets) : Type 0 where
  pub keyed : AreKeyed (key_at held names) buckets
  pub plain : (name version : List ℕ) → overridden_at (key_at held names) buckets (versioned_key name version) ≡ None
  pub known : (name : List ℕ) → IsTrue (is_some (overridden_at (key_at held names) buckets (plain_key name))) → is_one_of names name
  pub listed : (key : Key) → All (λ id. id < length (names_in held)) (definitions_at (key_at held names) buckets key)
  pub within : (name : List ℕ) (id : ℕ) → overridden_at (key_at held names) buckets (plain_key name) ≡ Some id → id < length (names_in held)
