use Rattle.std.proofs.Common.{take, All}
use Rattle.link_db_buckets.specs.Bucket.{heads_in}
use Rattle.link_db_buckets.specs.Heads.{HaveGrown, IsMarked, ids_of}
use Rattle.link_db_buckets.proofs.buckets.Buckets.mark_firsts.Given as goal

abbrev pub invariant-loop-bucket : goal.invariant-loop-bucket
invariant-loop-bucket l = record {
  grown : HaveGrown l.fn.marks l.marks;
  marked : All (λ b. All (λ h. IsMarked l.marks (ids_of h)) (heads_in b)) (take l.bucket-index l.self.buckets.items);
}
