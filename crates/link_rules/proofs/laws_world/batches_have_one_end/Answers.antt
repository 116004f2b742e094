use Rattle.link_rules.proofs.WorldOnce.{one-end, one-last}
use Rattle.link_rules.proofs.laws_world.batches_have_one_end.Goals as goal

pub returns-clause-ends : goal.returns-clause-ends
returns-clause-ends c = one-end

pub returns-clause-selects : goal.returns-clause-selects
returns-clause-selects c = one-last
