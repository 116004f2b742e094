use Rattle.std.proofs.Common.{take, All}
use Rattle.link_db_buckets.specs.Heads.{HaveGrown, IsMarked, ids_of}
use Rattle.link_db_buckets.proofs.head.mark_firsts.Given as goal

abbrev pub invariant-loop-head : goal.invariant-loop-head
invariant-loop-head l = record {
  grown : HaveGrown l.fn.marks l.marks;
  marked : All (λ h. IsMarked l.marks (ids_of h)) (take l.head-index l.heads);
}
