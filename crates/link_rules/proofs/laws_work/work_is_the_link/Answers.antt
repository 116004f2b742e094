use Rattle.link_rules.proofs.WorkDone.{work-marked, work-sound}
use Rattle.link_rules.proofs.WorkItems.{work-loaded}
use Rattle.link_rules.proofs.laws_work.work_is_the_link.Goals as goal

pub returns-clause-loaded : goal.returns-clause-loaded
returns-clause-loaded c = work-loaded

pub returns-clause-marked : goal.returns-clause-marked
returns-clause-marked c = work-marked

pub returns-clause-sound : goal.returns-clause-sound
returns-clause-sound c = work-sound
