-- Runs of neighbouring buckets, of which each has a place among all, and what becomes of them as definitions are added and taken back.
use Rattle.std.specs.Prelude.{◌≡◌, ◌+◌, ◌++◌, ◌%◌, ℕ, All, List, Option, None, Some, if◌then◌else◌, is_some, length, slice_get}
use Rattle.std.specs.Borrow.{Bor}
use Rattle.std.specs.List.{flat_map}
use Rattle.std.specs.Option.{option_or}
use Rattle.link_db_buckets.specs.declared.label.Label.{Label}
use Rattle.link_db_buckets.specs.declared.definition.Definition.{Definition}
use Rattle.link_db_buckets.specs.declared.bucket.Bucket.{Bucket}
use Rattle.link_db_buckets.specs.Keys.{Key, hash_of}
use Rattle.link_db_buckets.specs.Heads.{without_last}
use Rattle.link_db_buckets.specs.Bucket.{IsKeyed, definitions_in, hashes_in, label_in, mapped_in, overridden_in}
use Rattle.link_db_buckets.specs.Buckets.{first_label, ids_with}

-- the definitions of parts that follow one another
abbrev pub joined : List (Bor (List Definition)) → List Definition
joined parts = flat_map (λ p. p.now) parts

-- labels and hash numbers are those of these names, and each hash number belongs to the bucket of this place among so many
pub record IsOwn (names : Label → Option Key) (count place : ℕ) (b : Bucket) : Type 0 where
  pub keyed : IsKeyed names b
  pub settled : All (λ hash. hash % count ≡ place) (hashes_in b)

-- so is each bucket of a run, of which the first has this place
abbrev pub AreOwn : (Label → Option Key) → ℕ → ℕ → List Bucket → Type 0
AreOwn names count first run = (k : ℕ) (b : Bucket) → slice_get run k ≡ Some b → IsOwn names count (first + k) b

-- a bucket before and after these definitions were added: those of its keys stand behind the old ones
pub record IsGrown (names : Label → Option Key) (count place : ℕ) (added : List Definition) (before after : Bucket) : Type 0 where
  pub own : IsOwn names count place after
  pub definitions : (asked : Key) → hash_of asked % count ≡ place → definitions_in names after asked ≡ definitions_in names before asked ++ ids_with names added asked
  pub overridden : (asked : Key) → overridden_in names after asked ≡ overridden_in names before asked
  pub labels : (asked : Key) → hash_of asked % count ≡ place → label_in names after asked ≡ option_or (label_in names before asked) (first_label names added asked)

-- a run before and after definitions were added
pub record AreGrown (names : Label → Option Key) (count first : ℕ) (added : List Definition) (before after : List Bucket) : Type 0 where
  pub len : length after ≡ length before
  pub each : (k : ℕ) (b c : Bucket) → slice_get before k ≡ Some b → slice_get after k ≡ Some c → IsGrown names count (first + k) added b c

-- a bucket before and after as many definitions of each of its keys were taken away as there are here
pub record IsTaken (names : Label → Option Key) (count place : ℕ) (taken : List Definition) (before after : Bucket) : Type 0 where
  pub own : IsOwn names count place after
  pub definitions : (asked : Key) → hash_of asked % count ≡ place → definitions_in names after asked ≡ without_last (length (ids_with names taken asked)) (definitions_in names before asked)
  pub overridden : (asked : Key) → overridden_in names after asked ≡ overridden_in names before asked
  pub labels : (asked : Key) → hash_of asked % count ≡ place → label_in names after asked ≡ (if is_some (mapped_in names after asked) then label_in names before asked else None)

-- a run before and after definitions were taken away
pub record AreTaken (names : Label → Option Key) (count first : ℕ) (taken : List Definition) (before after : List Bucket) : Type 0 where
  pub len : length after ≡ length before
  pub each : (k : ℕ) (b c : Bucket) → slice_get before k ≡ Some b → slice_get after k ≡ Some c → IsTaken names count (first + k) taken b c
