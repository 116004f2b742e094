use Rattle.std.proofs.Common.{◌≡◌, map}
use Rattle.link_db_buckets.specs.Bucket.{heads_in}
use Rattle.link_db_buckets.proofs.side_by_side.reserve_run.Given as goal

abbrev pub invariant-loop-at : goal.invariant-loop-at
invariant-loop-at l = map heads_in l.run ≡ map heads_in l.fn.run
