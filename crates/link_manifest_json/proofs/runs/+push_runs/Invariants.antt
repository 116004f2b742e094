use Rattle.std.proofs.Common.{length}
use Rattle.link_manifest_json.proofs.runs.+push_runs.Given as goal

abbrev pub decreases-push_runs : goal.decreases-push_runs
decreases-push_runs l = length l.lengths.now
