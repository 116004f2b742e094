use Rattle.std.proofs.Common.{◌∙◌}
use Rattle.link_db_buckets.proofs.Running.{heads_set}
use Rattle.link_db_buckets.proofs.side_by_side.reserve_run.Goals as goal

pub returns-in_err-reserve : goal.returns-in_err-reserve
returns-in_err-reserve c = heads_set c.loop-at.run c.loop-at.at c.index-run-at.result c.reserve.new.self c.reserve.ensures ∙ c.loop-at.invariant

pub loop-at-preserved : goal.loop-at-preserved
loop-at-preserved c = heads_set c.loop-at.run c.loop-at.at c.index-run-at.result c.reserve.new.self c.reserve.ensures ∙ c.loop-at.invariant
