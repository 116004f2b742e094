use Rattle.std.proofs.Common.{◌<◌, ◌≤◌, length, arith}
use Rattle.link_db_buckets.proofs.Walks.{all_cleared, cleared_step}
use Rattle.link_db_buckets.proofs.walk.clear.Goals as goal

pub loop-fork-preserved : goal.loop-fork-preserved
loop-fork-preserved c =
    let inside : c.loop-fork.fork-index < length c.loop-fork.forks = omega (arith, c.loop-fork-test.true, c.loop-fork.auto.forks) in
    cleared_step c.loop-fork.forks c.bare.result c.loop-fork.fork-index c.bare.ensures.left c.bare.ensures.right inside c.loop-fork.invariant

pub returns-clause-bare : goal.returns-clause-bare
returns-clause-bare c =
    let end : length c.loop-fork.forks ≤ c.loop-fork.fork-index = omega (arith, c.loop-fork-test.false, c.loop-fork.auto.forks) in
    all_cleared c.loop-fork.forks c.loop-fork.fork-index end c.loop-fork.invariant
