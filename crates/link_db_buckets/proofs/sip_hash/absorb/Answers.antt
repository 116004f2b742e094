use Rattle.link_db_buckets.specs.SipHash.{absorb}
use Rattle.link_db_buckets.proofs.sip_hash.absorb.Goals as goal

pub returns : goal.returns
unfolding absorb
returns c = simp c.sip_round-t.ensures
