-- Sets of flags, as numbers whose bits are the flags.
use Rattle.std.specs.Prelude.{ℕ, ◌-◌, List, Bool, if◌then◌else◌, fold}
use Rattle.std.specs.Int.RustNames.{bit_and, bit_or}

-- these flags where a test holds, else none
abbrev pub flags_if : Bool → ℕ → ℕ
flags_if b flags = if b then flags else 0

-- all flags of some sets
abbrev pub joined_flags : List ℕ → ℕ
joined_flags sets = fold bit_or 0 sets

-- each of the 22 flags
abbrev pub all_flags : ℕ
all_flags = 0x3f_ffff

-- a set without a flag
abbrev pub without_flag : ℕ → ℕ → ℕ
without_flag flags flag = bit_and flags (all_flags - flag)
