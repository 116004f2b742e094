-- Numbers of short messages, as other programs compute them, so that a wrong constant, round or padding in the definition does not check.
use Rattle.std.proofs.Common.{◌≡◌, [], codes, refl}
use Rattle.link_db_buckets.specs.SipHash.{sip_start, sip_round, absorb, last_word, sip_finish, sip_hash}

pub number_of_nothing : sip_hash 0 0 [] ≡ 0xd1fba762150c532c
unfolding sip_start sip_round absorb last_word sip_finish sip_hash
number_of_nothing = refl

-- 9 bytes, of which one is behind the whole word
pub number_of_nine : sip_hash 0 0 (codes "pthread_x") ≡ 0x827e7e5cc1b129e0
unfolding sip_start sip_round absorb last_word sip_finish sip_hash
number_of_nine = refl

-- a version of `f`, whose number is the key
pub number_under_key : sip_hash (sip_hash 0 0 (codes "f")) 0 (codes "V1") ≡ 0x44e97fddbaccc7cb
unfolding sip_start sip_round absorb last_word sip_finish sip_hash
number_under_key = refl
