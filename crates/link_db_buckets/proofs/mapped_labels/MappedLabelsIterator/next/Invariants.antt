use Rattle.std.proofs.Common.{◌≡◌, ◌++◌, length}
use Rattle.std.specs.List.{flat_map}
use Rattle.std.specs.Slice.Iter.{iter_rest}
use Rattle.link_db_buckets.specs.Bucket.{heads_in}
use Rattle.link_db_buckets.specs.Heads.{mapped_labels}
use Rattle.link_db_buckets.proofs.mapped_labels.MappedLabelsIterator.next.Given as goal

abbrev pub invariant-loop-head-2 : goal.invariant-loop-head-2
invariant-loop-head-2 l = record {
  left : mapped_labels (iter_rest l.self-inside.heads ++ flat_map heads_in (iter_rest l.self-inside.buckets)) ≡ l.fn.self;
  buckets : length (iter_rest l.self-inside.buckets) ≡ length (iter_rest l.initial.self-inside.buckets);
}

abbrev pub decreases-loop-head-2 : goal.decreases-loop-head-2
decreases-loop-head-2 l = length (iter_rest l.self-inside.heads)

abbrev pub invariant-loop-head : goal.invariant-loop-head
invariant-loop-head l = mapped_labels (iter_rest l.self-inside.heads ++ flat_map heads_in (iter_rest l.self-inside.buckets)) ≡ l.fn.self

abbrev pub decreases-loop-head : goal.decreases-loop-head
decreases-loop-head l = length (iter_rest l.self-inside.buckets)
