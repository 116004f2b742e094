-- How a name is shown.
use Rattle.std.specs.Prelude.{ℕ, List, [], ◌∷◌, ◌++◌, codes, decimal, if◌then◌else◌}
use Rattle.std.specs.List.{flat_map}
use Rattle.std.specs.Str.{is_utf8}

-- numbers with a comma between two
abbrev pub numbers_text : List ℕ → List ℕ
numbers_text [] = []
numbers_text (x ∷ xs) = decimal x ++ flat_map (λ y. codes ", " ++ decimal y) xs

-- bytes that are no text, as numbers
abbrev pub invalid_text : List ℕ → List ℕ
invalid_text bytes = codes "INVALID UTF-8([" ++ numbers_text bytes ++ codes "])"

-- the text of a name: its bytes where they are UTF-8, else their numbers
abbrev pub name_text : List ℕ → List ℕ
name_text bytes = if is_utf8 bytes then bytes else invalid_text bytes
