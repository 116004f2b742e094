-- What buckets hold of a key.
use Rattle.std.specs.Prelude.{◌≡◌, ℕ, ◌%◌, List, [], All, Option, None, Some, filter, find, length, map, slice_get}
use Rattle.std.specs.List.{flat_map}
use Rattle.std.specs.Option.{option_map, option_map_or, option_or}
use Rattle.link_db_buckets.specs.declared.label.Label.{Label}
use Rattle.link_db_buckets.specs.declared.definition.Definition.{Definition}
use Rattle.link_db_buckets.specs.declared.head.Head.{Head}
use Rattle.link_db_buckets.specs.declared.bucket.Bucket.{Bucket}
use Rattle.link_db_buckets.specs.declared.buckets.Buckets.{Buckets}
use Rattle.link_db_buckets.specs.Keys.{Key, leads_to, number_of, hash_of}
use Rattle.link_db_buckets.specs.Bucket.{IsKeyed, definitions_in, hashes_in, label_in, overridden_in, heads_in}

abbrev pub buckets_in : Buckets → List Bucket
buckets_in bs = bs.buckets.items

-- the heads of all buckets
abbrev pub all_heads : Buckets → List Head
all_heads bs = flat_map heads_in (buckets_in bs)

-- what a key's bucket says: that of its hash number, counted round
abbrev pub asked_of : {X : Type 0} → (Bucket → Key → X) → X → List Bucket → Key → X
asked_of read none buckets key = option_map_or (λ b. read b key) (slice_get buckets (hash_of key % length buckets)) none

-- the ids of the key's definitions, in order
abbrev pub definitions_at : (Label → Option Key) → Buckets → Key → List ℕ
definitions_at names bs key = asked_of (definitions_in names) [] (buckets_in bs) key

-- what the key was overridden with
abbrev pub overridden_at : (Label → Option Key) → Buckets → Key → Option ℕ
overridden_at names bs key = asked_of (overridden_in names) None (buckets_in bs) key

-- what the key is mapped to: what it was overridden with, else its first definition
abbrev pub mapped_at : (Label → Option Key) → Buckets → Key → Option ℕ
mapped_at names bs key = option_or (overridden_at names bs key) (slice_get (definitions_at names bs key) 0)

-- the label of the key's head: a key has one exactly where it is mapped to something
abbrev pub label_at : (Label → Option Key) → Buckets → Key → Option Label
label_at names bs key = asked_of (label_in names) None (buckets_in bs) key

-- each bucket's hash numbers and labels are those of these names, and each hash number stands in its own bucket
pub record AreKeyed (names : Label → Option Key) (bs : Buckets) : Type 0 where
  pub keyed : (place : ℕ) (b : Bucket) → slice_get (buckets_in bs) place ≡ Some b → IsKeyed names b
  pub settled : (place : ℕ) (b : Bucket) → slice_get (buckets_in bs) place ≡ Some b → All (λ hash. hash % length (buckets_in bs) ≡ place) (hashes_in b)

-- each definition has the hash number of its name
abbrev pub AreHashed : (Label → Option Key) → List Definition → Type 0
AreHashed names definitions = All (λ d. number_of names d.label ≡ Some d.hash) definitions

-- the ids of the definitions of a key, in order
abbrev pub ids_with : (Label → Option Key) → List Definition → Key → List ℕ
ids_with names definitions key = map (λ d. d.id) (filter (λ d. leads_to names d.label key) definitions)

-- the label of the first definition of a key
abbrev pub first_label : (Label → Option Key) → List Definition → Key → Option Label
first_label names definitions key = option_map (λ d. d.label) (find (λ d. leads_to names d.label key) definitions)
