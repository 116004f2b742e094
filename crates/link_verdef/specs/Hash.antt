-- The SysV hash of a name (ELF gABI, "Hash Table").
use Rattle.std.specs.Prelude.{ℕ, ◌+◌, ◌*◌, ◌/◌, ◌%◌, ◌^◌, List, fold, bit_and, bit_xor}

-- the top four bits of a word of 32 bits
abbrev pub top_bits : ℕ → ℕ
top_bits word = bit_and word 0xf000_0000

-- one byte more: the word is moved up by four bits, and what comes to its top is folded back and cleared
abbrev pub hash_step : ℕ → ℕ → ℕ
hash_step hash byte =
    let word = (16 * hash + byte) % 2 ^ 32 in
    bit_and (bit_xor word (top_bits word / 2 ^ 24)) 0x0fff_ffff

-- the hash of a name, from its first byte on
abbrev pub sysv_hash : List ℕ → ℕ
sysv_hash name = fold hash_step 0 name
