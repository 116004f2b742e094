-- The hash numbers of names.
use Rattle.std.specs.Prelude.{ℕ, ◌≡◌, ◌<◌, [], ◌∷◌, ◌*◌, ◌%◌, ◌^◌, List, fold, bit_xor, IsTrue, nat_eq}
use Rattle.std.specs.Cmp.Lexicographic.{pointwise, bytes_decides}
use Rattle.std.proofs.Common.{ap, arith}

-- FNV-1a, 64 bits: the number after one byte more is the number with the byte by exclusive or, times the prime
abbrev pub fnv_step : ℕ → ℕ → ℕ
fnv_step hash byte = (bit_xor hash byte * 0x100000001b3) % 2 ^ 64

-- the number of bytes, from the offset basis on
unfoldable pub fnv_1a : List ℕ → ℕ
fnv_1a bytes = fold fnv_step 0xcbf29ce484222325 bytes

-- the number of bytes, carried on over the bytes behind them
unfoldable pub fnv_1a_on : ℕ → List ℕ → ℕ
fnv_1a_on hash bytes = fold fnv_step hash bytes

-- equal bytes have equal numbers
pub fnv_1a-alike : (x y : List ℕ) → IsTrue (pointwise nat_eq x y) → fnv_1a x ≡ fnv_1a y
fnv_1a-alike x y e = ap fnv_1a ((bytes_decides x y).0 e)

small_from : (hash : ℕ) (bytes : List ℕ) → hash < 2 ^ 64 → fold fnv_step hash bytes < 2 ^ 64
small_from hash [] small = small
small_from hash (b ∷ bs) small = small_from (fnv_step hash b) bs (omega arith)

-- a number has 64 bits
pub fnv_1a-small : (bytes : List ℕ) → fnv_1a bytes < 2 ^ 64
unfolding fnv_1a
fnv_1a-small bytes = small_from 0xcbf29ce484222325 bytes (omega arith)
