use Rattle.std.proofs.Common.{◌≡◌, ◌≤◌, length, drop}
use Rattle.std.specs.Int.{w64, from_le_bytes}
use Rattle.link_db_buckets.proofs.sip_hash.short_word.Given as goal

abbrev pub invariant-bytes : goal.invariant-bytes
invariant-bytes l = (l.at ≤ length l.bytes) × (l.word ≡ from_le_bytes w64 (drop l.at l.bytes))

abbrev pub decreases-bytes : goal.decreases-bytes
decreases-bytes l = l.at
