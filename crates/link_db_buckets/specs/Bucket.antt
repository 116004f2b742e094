-- What a bucket holds of a key.
use Rattle.std.specs.Prelude.{ℕ, List, [], Option, slice_get}
use Rattle.std.specs.Option.{option_and_then, option_map, option_map_or, option_or}
use Rattle.link_db_buckets.specs.declared.label.Label.{Label}
use Rattle.link_db_buckets.specs.declared.head.Head.{Head}
use Rattle.link_db_buckets.specs.declared.bucket.Bucket.{Bucket}
use Rattle.link_db_buckets.specs.Keys.{Key}
use Rattle.link_db_buckets.specs.Heads.{HaveKeys, hashes_of, head_of, ids_of}

abbrev pub heads_in : Bucket → List Head
heads_in b = b.heads.items

abbrev pub hashes_in : Bucket → List ℕ
hashes_in b = hashes_of (heads_in b)

-- the ids of the key's definitions, in order
abbrev pub definitions_in : (Label → Option Key) → Bucket → Key → List ℕ
definitions_in names b key = option_map_or ids_of (head_of names (heads_in b) key) []

-- what the key was overridden with
abbrev pub overridden_in : (Label → Option Key) → Bucket → Key → Option ℕ
overridden_in names b key = option_and_then (λ h. h.overridden) (head_of names (heads_in b) key)

-- what the key is mapped to: what it was overridden with, else its first definition
abbrev pub mapped_in : (Label → Option Key) → Bucket → Key → Option ℕ
mapped_in names b key = option_or (overridden_in names b key) (slice_get (definitions_in names b key) 0)

-- the label of the key's head: a key has one exactly where it is mapped to something
abbrev pub label_in : (Label → Option Key) → Bucket → Key → Option Label
label_in names b key = option_map (λ h. h.label) (head_of names (heads_in b) key)

-- the bucket's hash numbers and labels are those of these names
abbrev pub IsKeyed : (Label → Option Key) → Bucket → Type 0
IsKeyed names b = HaveKeys names (heads_in b)
