use Rattle.std.proofs.Common.{◌≡◌, fold, take}
use Rattle.link_names.specs.NameHash.{fnv_step}
use Rattle.link_names.proofs.fnv.extend_hash.Given as goal

abbrev pub invariant-loop-byte : goal.invariant-loop-byte
invariant-loop-byte l = l.extended ≡ fold fnv_step l.hash (take l.byte-index l.bytes)
