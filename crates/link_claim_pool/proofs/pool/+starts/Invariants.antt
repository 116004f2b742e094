use Rattle.std.proofs.Common.{◌+◌, ◌*◌}
use Rattle.link_claim_pool.proofs.pool.+starts.Given as goal

abbrev pub decreases-run : goal.decreases-run
decreases-run g l = 2 * l.starts

abbrev pub decreases-here : goal.decreases-here
decreases-here g l = 2 * l.next + 1
