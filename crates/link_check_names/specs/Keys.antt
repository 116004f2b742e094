-- Keys of names in a tree: the number of a name, and behind it the name, with its version where it has one.
use Rattle.std.specs.Prelude.{ℕ, ◌&&◌, ◌==◌, List, Bool, Option, option_map}
use Rattle.std.specs.Str.{bytes_eq}
use Rattle.std.specs.Borrow.{Bor}
use Rattle.link_names.specs.NameHash.{fnv_1a}
use Rattle.link_rules.specs.Places.{same_version}

-- a number, and a name, with its version where it has one
abbrev pub Key : Type 0
Key = ℕ × List ℕ × Option (List ℕ)

-- the key of a name and version: it begins with the number of the name
abbrev pub key_for : List ℕ → Option (List ℕ) → Key
key_for name version = (fnv_1a name, name, version)

-- they are the same number, name and version
abbrev pub same_key : Key → Key → Bool
same_key x y = (x.0 == y.0 && bytes_eq x.1 y.1) && same_version x.2 y.2

-- a key whose name and version are lent
abbrev pub KeyRef : Type 0
KeyRef = ℕ × Bor (List ℕ) × Option (Bor (List ℕ))

-- its number, and the bytes of its name and version
abbrev pub key_of : KeyRef → Key
key_of k = (k.0, k.1.now, option_map (λ (v : Bor (List ℕ)). v.now) k.2)

-- the same key, at one that is lent
abbrev pub has_key : Key → KeyRef → Bool
has_key key k = same_key key (key_of k)
