-- A number through a hasher that hands it on.
use Rattle.std.proofs.Common.{◌≡◌, ◌<◌, ◌^◌, ℕ}
use Rattle.std.specs.Hash.{le_bytes}
use Rattle.std.proofs.lemmas.Nat.{from_le_bytes-to_le_bytes_8}
use Rattle.link_names.specs.PassThrough.{number_after}

-- the eight bytes of a number are that number
pub number_after-bytes : (n x : ℕ) → x < 2 ^ 64 → number_after n (le_bytes 8 x) ≡ x
unfolding le_bytes
number_after-bytes n x h = from_le_bytes-to_le_bytes_8 x h
