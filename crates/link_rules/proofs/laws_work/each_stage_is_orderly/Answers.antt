use Rattle.link_rules.proofs.Stages.{orderly-stage}
use Rattle.link_rules.proofs.laws_work.each_stage_is_orderly.Goals as goal

pub returns : goal.returns
returns c = orderly-stage
