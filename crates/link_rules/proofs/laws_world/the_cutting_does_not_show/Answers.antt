use Rattle.link_rules.proofs.Cutting.{linked-alike, refused-alike}
use Rattle.link_rules.proofs.laws_world.the_cutting_does_not_show.Goals as goal

pub returns-clause-linked : goal.returns-clause-linked
returns-clause-linked c = linked-alike

pub returns-clause-refused : goal.returns-clause-refused
returns-clause-refused c = refused-alike
