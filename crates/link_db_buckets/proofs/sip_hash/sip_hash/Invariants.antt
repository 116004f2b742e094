use Rattle.std.proofs.Common.{◌≡◌, fold, map, take}
use Rattle.std.specs.Int.{w64, from_le_bytes}
use Rattle.link_db_buckets.specs.SipHash.{absorb, sip_start}
use Rattle.link_db_buckets.proofs.sip_hash.sip_hash.Given as goal

abbrev pub invariant-words : goal.invariant-words
invariant-words l = l.state ≡ fold absorb (sip_start l.k0 l.k1) (take l.word-index (map (from_le_bytes w64) l.words))
