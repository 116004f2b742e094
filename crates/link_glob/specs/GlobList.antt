-- Which globs of a list fit a name.
use Rattle.std.specs.Prelude.{ℕ, zero, suc, max, length, Bool, false, if◌then◌else◌, List, Option, Some, None, slice_get}
use Rattle.link_glob.specs.Glob.{GlobToken, does_match}

-- the last number below n that passes
abbrev pub last_of : (ℕ → Bool) → ℕ → Option ℕ
last_of p zero = None
last_of p (suc n) = if p n then Some n else last_of p n

-- the later of two numbers, where there are both
abbrev pub later : Option ℕ → Option ℕ → Option ℕ
later (Some m) (Some n) = Some (max m n)
later (Some m) None = Some m
later None n = n

-- whether there is a glob, and it fits the name
abbrev pub fits_name : List ℕ → Option (List GlobToken) → Bool
fits_name name None = false
fits_name name (Some glob) = does_match glob name

-- whether the glob of this number fits the name
abbrev pub fits_at : List (List GlobToken) → List ℕ → ℕ → Bool
fits_at globs name n = fits_name name (slice_get globs n)

-- the number of the last glob that fits the name
unfoldable pub last_fit : List (List GlobToken) → List ℕ → Option ℕ
last_fit globs name = last_of (fits_at globs name) (length globs)
