-- Keys of globs, by the characters that a glob begins or ends with, and the index that finds globs by them.
use Rattle.std.specs.Prelude.{◌≡◌, ◌≤◌, ◌<◌, ℕ, suc, length, Bool, true, false, ◌==◌, ◌||◌, ◌&&◌, ◌*◌, ◌%◌, ◌^◌, ⊤, bit_xor, if◌then◌else◌, nat_lt, nat_eq, List, [], ◌∷◌, reverse, Option, Some, None, slice_get}
use Rattle.std.specs.HashMap.{get}
use Rattle.link_glob.specs.declared.glob_index.GlobIndex.{GlobIndex}
use Rattle.link_glob.specs.Glob.{GlobToken, literal}
use Rattle.link_glob.specs.GlobList.{last_of, fits_at}

-- the key with one character more, as FNV-1a has it
abbrev pub key_with : ℕ → ℕ → ℕ
key_with key c = (bit_xor key c * 0x100000001b3) % 2 ^ 64

-- the key of no characters, from the front and from the back
abbrev pub front_key : ℕ
front_key = 0xcbf29ce484222325

abbrev pub back_key : ℕ
back_key = 0x9e3779b97f4a7c15

-- the key of the characters that a pattern begins with
abbrev pub run_key : ℕ → List GlobToken → ℕ
run_key key (literal c ∷ tokens) = run_key (key_with key c) tokens
run_key key tokens = key

-- how many characters it begins with
abbrev pub run_length : List GlobToken → ℕ
run_length (literal c ∷ tokens) = suc (run_length tokens)
run_length tokens = 0

-- the key of the characters that it begins with or, where there are more, of those that it ends with, the last first
unfoldable pub key_of : List GlobToken → ℕ
key_of glob = if nat_lt (run_length glob) (run_length (reverse glob)) then run_key back_key (reverse glob) else run_key front_key glob

-- of how many characters the key is: in front, and at the end
unfoldable pub front_length : List GlobToken → ℕ
front_length glob = if nat_lt (run_length glob) (run_length (reverse glob)) then 0 else run_length glob

unfoldable pub back_length : List GlobToken → ℕ
back_length glob = if nat_lt (run_length glob) (run_length (reverse glob)) then run_length (reverse glob) else 0

-- there is no glob, or its key is of no more characters than these
abbrev pub IsFiledWithin : ℕ → ℕ → Option (List GlobToken) → Type 0
IsFiledWithin front back None = ⊤
IsFiledWithin front back (Some glob) = (front_length glob ≤ front) × (back_length glob ≤ back)

-- whether there is a glob, and it has this key
abbrev pub has_key : ℕ → Option (List GlobToken) → Bool
has_key key None = false
has_key key (Some glob) = key_of glob == key

-- whether the glob of this number has the key
abbrev pub is_under : List (List GlobToken) → ℕ → ℕ → Bool
is_under globs key n = has_key key (slice_get globs n)

-- whether there is a glob, and it has the key of some front of the text
abbrev pub has_front_key : ℕ → List ℕ → Option (List GlobToken) → Bool
has_front_key key [] glob = has_key key glob
has_front_key key (c ∷ text) glob = has_key key glob || has_front_key (key_with key c) text glob

-- whether the glob of this number has
abbrev pub is_under_some : List (List GlobToken) → ℕ → List ℕ → ℕ → Bool
is_under_some globs key text n = has_front_key key text (slice_get globs n)

-- the last glob before this number that has the key and fits the name
abbrev pub last_under : List (List GlobToken) → ℕ → List ℕ → ℕ → Option ℕ
last_under globs key name n = last_of (λ k. is_under globs key k && fits_at globs name k) n

-- the last one that has the key of some front of the text, and fits the name
abbrev pub last_under_some : List (List GlobToken) → ℕ → List ℕ → List ℕ → ℕ → Option ℕ
last_under_some globs key text name n = last_of (λ k. is_under_some globs key text k && fits_at globs name k) n

-- how many globs are in the index
abbrev pub filed : GlobIndex → ℕ
filed index = length index.earlier.items

-- the first globs are found by the index: of each key the last one, and from each one the one before it; no key is of
-- more characters than the longest
pub record IsIndexOf (globs : List (List GlobToken)) (index : GlobIndex) : Type 0 where
  pub few : length index.earlier.items ≤ length globs
  pub last : (key : ℕ) → get nat_eq index.last key ≡ last_of (is_under globs key) (length index.earlier.items)
  pub earlier : (key n : ℕ) → n < length index.earlier.items → is_under globs key n ≡ true → slice_get index.earlier.items n ≡ Some (last_of (is_under globs key) n)
  pub within : (n : ℕ) → n < length index.earlier.items → IsFiledWithin index.longest_front index.longest_back (slice_get globs n)

-- so are all of them
pub record IsWholeIndexOf (globs : List (List GlobToken)) (index : GlobIndex) : Type 0 where
  pub found : IsIndexOf globs index
  pub all : filed index ≡ length globs
