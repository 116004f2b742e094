-- Lists of symbols by names.
use Rattle.std.specs.Prelude.{ℕ, List, [], Option, map, unwrap_or}
use Rattle.std.specs.Map.{lookup}
use Rattle.std.specs.Global.{Vec}
use Rattle.link_check_names.specs.Keys.{Key, KeyRef, key_for, key_of, same_key}

-- keys, and the symbols that are listed of each
abbrev pub Listed : Type 0
Listed = List (Key × List ℕ)

-- the symbols that are listed of a key
abbrev pub list_at : Listed → Key → List ℕ
list_at listed key = unwrap_or (lookup (same_key key) listed) []

-- the symbols that are listed of a name
abbrev pub list_in : Listed → List ℕ → Option (List ℕ) → List ℕ
list_in listed name version = list_at listed (key_for name version)

-- the entries of a tree, by the bytes of their keys
abbrev pub listed_in : List (KeyRef × Vec ℕ) → Listed
listed_in entries = map (λ e. (key_of e.0, e.1.items)) entries
