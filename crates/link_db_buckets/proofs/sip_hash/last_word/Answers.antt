use Rattle.std.proofs.Common.{arith}
use Rattle.link_db_buckets.specs.SipHash.{last_word}
use Rattle.link_db_buckets.proofs.sip_hash.last_word.Goals as goal

pub returns : goal.returns
unfolding last_word
returns c = omega (arith, c.rest_word.ensures)
