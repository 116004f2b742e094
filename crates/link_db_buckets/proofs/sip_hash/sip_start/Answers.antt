use Rattle.std.proofs.Common.{refl}
use Rattle.link_db_buckets.specs.SipHash.{sip_start}
use Rattle.link_db_buckets.proofs.sip_hash.sip_start.Goals as goal

pub returns : goal.returns
unfolding sip_start
returns c = refl
