use Rattle.std.proofs.Common.{◌≡◌, ◌++◌, map, take, drop}
use Rattle.link_db_buckets.specs.Bucket.{heads_in}
use Rattle.link_db_buckets.specs.Heads.{first_alone}
use Rattle.link_db_buckets.proofs.buckets.release_all.Given as goal

abbrev pub invariant-loop-bucket : goal.invariant-loop-bucket
invariant-loop-bucket l = map heads_in l.buckets ≡ map (map first_alone) (take l.bucket-index (map heads_in l.initial.buckets)) ++ drop l.bucket-index (map heads_in l.initial.buckets)
