-- Where the first item of a list stands that passes a test.
use Rattle.std.specs.Prelude.{ℕ, ◌+◌, List, [], ◌∷◌, Bool, Option, Some, None, if◌then◌else◌}

-- the place of the first that passes, in a list whose first place this is
abbrev pub place_from : {A : Type 0} → (A → Bool) → ℕ → List A → Option ℕ
place_from test at [] = None
place_from test at (x ∷ xs) = if test x then Some at else place_from test (at + 1) xs
