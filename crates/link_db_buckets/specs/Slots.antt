-- Where a hash number is looked for: its slot, and its bit in a filter.
use Rattle.std.specs.Prelude.{◌-◌, ◌/◌, ◌^◌, ◌==◌, ℕ, Bool, true, List, [], ◌∷◌, bit_and, length, slice_index}
use Rattle.std.specs.Int.{bit_at}

-- the slot of a number among so many
abbrev pub slot_of : ℕ → ℕ → ℕ
slot_of slots number = bit_and (number / 2 ^ 8) (slots - 1)

-- the number's bit is set, in the words of a filter; where there are none, nothing is told, and each number may have come
abbrev pub may_hold : List ℕ → ℕ → Bool
may_hold [] number = true
may_hold (word ∷ words) number = bit_at (slice_index (word ∷ words) (slot_of (length (word ∷ words)) number)) (number / 2 ^ 58) == 1
