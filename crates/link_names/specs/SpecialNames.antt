-- Names and numbers as texts.
use Rattle.std.specs.Prelude.{ℕ, Bool, ◌||◌, ◌++◌, List, [], ◌∷◌, drop, nat_eq, codes, if◌then◌else◌}
use Rattle.std.specs.List.{starts_with}
use Rattle.std.specs.Str.{bytes_eq}

-- the name marks code or data (ELF for the Arm 64-bit Architecture, "Mapping symbols"), or is an assembler's fake label
abbrev pub is_mapping_name : List ℕ → Bool
is_mapping_name name =
    starts_with nat_eq name (codes "$x") || starts_with nat_eq name (codes "$d") || bytes_eq name (codes "L0" ++ 1 ∷ [])

-- the text is written in base 16
abbrev pub is_hexadecimal : List ℕ → Bool
is_hexadecimal text = starts_with nat_eq text (codes "0x")

-- the base of a number, and its digits with their plus
abbrev pub base_of : List ℕ → ℕ
base_of text = if is_hexadecimal text then 16 else 10

abbrev pub numeral_of : List ℕ → List ℕ
numeral_of text = if is_hexadecimal text then drop 2 text else text
