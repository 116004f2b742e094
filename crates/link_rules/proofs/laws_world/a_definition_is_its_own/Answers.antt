use Rattle.link_rules.proofs.TwiceOver.{definition-over}
use Rattle.link_rules.proofs.laws_world.a_definition_is_its_own.Goals as goal

pub returns : goal.returns
returns c = definition-over
