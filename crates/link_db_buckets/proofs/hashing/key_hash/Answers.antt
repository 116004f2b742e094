use Rattle.std.proofs.Common.{rules}
use Rattle.link_db_buckets.specs.Keys.{hash_of}
use Rattle.link_db_buckets.proofs.hashing.key_hash.Goals as goal

pub returns-in-Some : goal.returns-in-Some
unfolding hash_of
returns-in-Some c = search rules

pub returns-in-None : goal.returns-in-None
unfolding hash_of
returns-in-None c = search rules
