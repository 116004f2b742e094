-- A hasher that hands on a number.
use Rattle.std.specs.Prelude.{ℕ, ◌==◌, List, length, if◌then◌else◌}
use Rattle.std.specs.Int.{from_le_bytes, w64}

-- the number after a write: eight bytes are a number, the lowest first, and other bytes change nothing
abbrev pub number_after : ℕ → List ℕ → ℕ
number_after n bytes = if length bytes == 8 then from_le_bytes w64 bytes else n
