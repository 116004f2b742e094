-- Texts in the order of their bytes.
use Rattle.std.specs.Prelude.{List, [], ◌∷◌, if◌then◌else◌}
use Rattle.std.specs.Ordering.{nat_cmp, is_lt}
use Rattle.std.specs.Cmp.Lexicographic.{slice_cmp}
use Rattle.std.specs.List.Sorted.{IsPermutation, IsSorted}
use Rattle.link_rules.specs.Places.{Bytes}

-- a text among sorted ones, before the first that is not less
abbrev pub sorted_with : Bytes → List Bytes → List Bytes
sorted_with text [] = text ∷ []
sorted_with text (x ∷ xs) = if is_lt (slice_cmp nat_cmp x text) then x ∷ sorted_with text xs else text ∷ x ∷ xs

-- the texts in the order of their bytes
abbrev pub sorted_texts : List Bytes → List Bytes
sorted_texts [] = []
sorted_texts (x ∷ xs) = sorted_with x (sorted_texts xs)

-- the same texts, in the order of their bytes
abbrev pub IsSortedTexts : List Bytes → List Bytes → Type 0
IsSortedTexts texts sorted = IsPermutation texts sorted × IsSorted (slice_cmp nat_cmp) sorted
