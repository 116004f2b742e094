use Rattle.link_db_buckets.specs.Heads.{has_hash}
use Rattle.link_db_buckets.proofs.Search.{AreLeft}
use Rattle.link_db_buckets.proofs.bucket.Bucket.may_have.Given as goal

abbrev pub invariant-loop-place : goal.invariant-loop-place
invariant-loop-place l = AreLeft (has_hash l.hash) l.self.heads.items l.place-iterator
