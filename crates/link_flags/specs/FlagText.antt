-- What a set of flags prints.
use Rattle.std.specs.Prelude.{ℕ, Bool, List, [], ◌∷◌, ◌++◌, ◌==◌, map, filter, codes, if◌then◌else◌}
use Rattle.std.specs.List.{flat_map}
use Rattle.std.specs.Int.RustNames.{bit_and}
use Rattle.bitflags.specs.declared.Flag.{Flag}
use Rattle.link_flags.specs.declared.value_flags.ValueFlags.{ValueFlags}
use Rattle.link_flags.specs.FlagTable.{flag_table}

-- a flag's name and bits
abbrev pub row_of : Flag ValueFlags → List ℕ × ℕ
row_of r = (r.name.now, r.value.0)

-- the set has all bits of the row
abbrev pub has_row : ℕ → List ℕ × ℕ → Bool
has_row n r = bit_and n r.1 == r.1

-- the names of the rows that the set has, in their order
abbrev pub names_of : ℕ → List (List ℕ × ℕ) → List (List ℕ)
names_of n rows = map (λ r. r.0) (filter (has_row n) rows)

-- pieces with a bar between two
abbrev pub joined : List (List ℕ) → List ℕ
joined [] = []
joined (p ∷ ps) = p ++ flat_map (λ q. codes " | " ++ q) ps

-- a piece as it is written: after a bar unless it is the first
abbrev pub piece : Bool → List ℕ → List ℕ
piece first p = if first then p else codes " | " ++ p

-- the text of a set of flags
unfoldable pub flags_text : ℕ → List ℕ
flags_text n = joined (names_of n flag_table)
