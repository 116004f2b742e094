-- What a symbol is found by, and the labels that lead to it.
use Rattle.std.specs.Prelude.{◌≡◌, ℕ, List, Bool, false, ◌&&◌, Option, Some, option_map}
use Rattle.std.specs.Option.{option_eq, option_map_or}
use Rattle.std.specs.Str.{bytes_eq}
use Rattle.std.specs.Borrow.{Bor}
use Rattle.link_db_buckets.specs.SipHash.{sip_hash}
use Rattle.link_db_buckets.specs.declared.label.Label.{Label}

-- a name, and its version where it has one
pub record Key : Type 0 where
  pub name : List ℕ
  pub version : Option (List ℕ)

-- the key of a name and a version that were passed
abbrev pub key_of : List ℕ → Option (Bor (List ℕ)) → Key
key_of name version = record { name = name; version = option_map (λ v. v.now) version }

-- equal names by their bytes, with the same version or both with none
abbrev pub same_key : Key → Key → Bool
same_key a b = bytes_eq a.name b.name && option_eq bytes_eq a.version b.version

-- the label leads to the key
abbrev pub leads_to : (Label → Option Key) → Label → Key → Bool
leads_to names label key = option_map_or (λ own. same_key own key) (names label) false

-- both labels lead to one key
abbrev pub have_one_key : (Label → Option Key) → Label → Label → Bool
have_one_key names a b = option_map_or (leads_to names a) (names b) false

-- the hash number of a key: SipHash-1-3 of its name under the key (0, 0), which is fixed and public; with a version that of the version, under the
-- key of the name's number and 0
unfoldable pub hash_of : Key → ℕ
hash_of key = option_map_or (sip_hash (sip_hash 0 0 key.name) 0) key.version (sip_hash 0 0 key.name)

-- the hash number of the key to which the label leads
abbrev pub number_of : (Label → Option Key) → Label → Option ℕ
number_of names label = option_map hash_of (names label)

-- the new names are those of the old tables, and more
abbrev pub Extends : (Label → Option Key) → (Label → Option Key) → Type 0
Extends old new = (label : Label) (key : Key) → old label ≡ Some key → new label ≡ Some key
