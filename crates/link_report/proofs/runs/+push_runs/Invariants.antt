use Rattle.std.proofs.Common.{length}
use Rattle.link_report.proofs.runs.+push_runs.Given as goal

abbrev pub decreases-push_runs : goal.decreases-push_runs
decreases-push_runs g l = length l.lengths.now
