use Rattle.link_db_buckets.specs.Heads.{is_labelled}
use Rattle.link_db_buckets.proofs.Search.{AreLeft}
use Rattle.link_db_buckets.proofs.bucket.Bucket.place_of_label.Given as goal

abbrev pub invariant-loop-place : goal.invariant-loop-place
invariant-loop-place g l = AreLeft (is_labelled (g.T.Names.key_at l.table) l.label) l.self.heads.items l.place-iterator
