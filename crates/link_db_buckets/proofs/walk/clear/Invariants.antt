use Rattle.std.proofs.Common.{◌≡◌, ◌<◌, ℕ, Bool}
use Rattle.link_db_buckets.specs.Walks.{link_at}
use Rattle.link_db_buckets.proofs.walk.clear.Given as goal

abbrev pub invariant-loop-fork : goal.invariant-loop-fork
invariant-loop-fork l = (place : ℕ) (right : Bool) → place < l.fork-index → link_at l.forks place right ≡ 0
