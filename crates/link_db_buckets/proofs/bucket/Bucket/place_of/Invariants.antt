use Rattle.link_db_buckets.specs.Heads.{is_head}
use Rattle.link_db_buckets.specs.Keys.{key_of}
use Rattle.link_db_buckets.proofs.Search.{AreLeft}
use Rattle.link_db_buckets.proofs.bucket.Bucket.place_of.Given as goal

abbrev pub invariant-loop-place : goal.invariant-loop-place
invariant-loop-place g l = AreLeft (is_head (g.T.Names.key_at l.table) (key_of l.name l.version)) l.self.heads.items l.place-iterator
