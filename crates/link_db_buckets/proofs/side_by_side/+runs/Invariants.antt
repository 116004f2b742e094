use Rattle.std.proofs.Common.{◌+◌, ◌*◌}
use Rattle.link_db_buckets.proofs.side_by_side.+runs.Given as goal

abbrev pub decreases-apply_run : goal.decreases-apply_run
decreases-apply_run g l = 4 * l.threads

abbrev pub decreases-apply_both : goal.decreases-apply_both
decreases-apply_both g l = 4 * l.threads + 3

abbrev pub decreases-fill_both : goal.decreases-fill_both
decreases-fill_both g l = 4 * l.threads + 2

abbrev pub decreases-fill_both-front : goal.decreases-fill_both-front
decreases-fill_both-front g l = 4 * l.threads + 1

abbrev pub decreases-fill_both-back : goal.decreases-fill_both-back
decreases-fill_both-back g l = 4 * l.threads + 1
