use Rattle.std.proofs.Common.{◌≡◌, ◌++◌, map, take, drop}
use Rattle.link_db_buckets.specs.Heads.{first_alone}
use Rattle.link_db_buckets.proofs.head.release_all.Given as goal

abbrev pub invariant-loop-head : goal.invariant-loop-head
invariant-loop-head l = l.heads ≡ map first_alone (take l.head-index l.initial.heads) ++ drop l.head-index l.initial.heads
