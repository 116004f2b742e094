-- The heads of a bucket.
use Rattle.std.specs.Prelude.{◌≡◌, ◌-◌, ◌<◌, ◌==◌, ◌&&◌, ℕ, Bool, true, IfSome, IsTrue, List, [], ◌∷◌, Option, Some, None, filter_map, find, is_some, length, map, option_map, slice_get, take, unwrap_or}
use Rattle.std.specs.Option.{option_or}
use Rattle.link_db_buckets.specs.declared.label.Label.{Label}
use Rattle.link_db_buckets.specs.declared.head.Head.{Head}
use Rattle.link_db_buckets.specs.Keys.{Key, leads_to, have_one_key, number_of}

-- the ids of its definitions
abbrev pub ids_of : Head → List ℕ
ids_of h = unwrap_or h.definitions []

-- the first of several ids
abbrev pub first_of_several : List ℕ → Option ℕ
first_of_several (id ∷ next ∷ rest) = Some id
first_of_several ids = None

-- the first of these ids has a mark, where they are several and it has a place
abbrev pub IsMarked : List Bool → List ℕ → Type 0
IsMarked marks ids = IfSome (first_of_several ids) (λ id. id < length marks → slice_get marks id ≡ Some true)

-- marks came to those that there were
pub record HaveGrown (old new : List Bool) : Type 0 where
  pub len : length new ≡ length old
  pub kept : (id : ℕ) → slice_get old id ≡ Some true → slice_get new id ≡ Some true

-- what it was overridden with, else its first definition
abbrev pub mapped_of : Head → Option ℕ
mapped_of h = option_or h.overridden (slice_get (ids_of h) 0)

-- ids but for the last n
abbrev pub without_last : ℕ → List ℕ → List ℕ
without_last n ids = take (length ids - n) ids

-- the head with its first definition alone
abbrev pub first_alone : Head → Head
first_alone h = record h { definitions = option_map (take 1) h.definitions }

abbrev pub hashes_of : List Head → List ℕ
hashes_of heads = map (λ h. h.hash) heads

-- it is mapped to something: another head is not in use, and stands for no name
abbrev pub is_used : Head → Bool
is_used h = is_some (mapped_of h)

-- the label of each head in use, with what the head is mapped to
abbrev pub mapped_labels : List Head → List (Label × ℕ)
mapped_labels heads = filter_map (λ h. option_map (λ id. (h.label, id)) (mapped_of h)) heads

-- it is in use, and its label leads to the key
abbrev pub is_head : (Label → Option Key) → Key → Head → Bool
is_head names key h = is_used h && leads_to names h.label key

-- it is in use, and leads to the key of the label
abbrev pub is_labelled : (Label → Option Key) → Label → Head → Bool
is_labelled names label h = is_used h && have_one_key names h.label label

-- it has the hash number
abbrev pub has_hash : ℕ → Head → Bool
has_hash hash h = h.hash == hash

-- the first head of the key
abbrev pub head_of : (Label → Option Key) → List Head → Key → Option Head
head_of names heads key = find (is_head names key) heads

-- the label of each head in use leads to a name with the head's hash number, and no two of them lead to one key
pub record HaveKeys (names : Label → Option Key) (heads : List Head) : Type 0 where
  pub numbered : (place : ℕ) (h : Head) → slice_get heads place ≡ Some h → IsTrue (is_used h) → number_of names h.label ≡ Some h.hash
  pub apart : (a b : ℕ) (g h : Head) → slice_get heads a ≡ Some g → slice_get heads b ≡ Some h → IsTrue (is_used g) → IsTrue (is_labelled names g.label h) → a ≡ b
