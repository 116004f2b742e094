use Rattle.link_db_buckets.specs.SipHash.{sip_finish}
use Rattle.link_db_buckets.proofs.sip_hash.sip_finish.Goals as goal

pub returns : goal.returns
unfolding sip_finish
returns c = simp (c.sip_round-t.ensures, c.sip_round-2.ensures, c.sip_round.ensures)
