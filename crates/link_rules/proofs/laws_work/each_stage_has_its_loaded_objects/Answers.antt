use Rattle.link_rules.proofs.Existence.{stage-loads}
use Rattle.link_rules.proofs.laws_work.each_stage_has_its_loaded_objects.Goals as goal

pub returns : goal.returns
returns c = stage-loads
