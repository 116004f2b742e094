use Rattle.link_rules.proofs.AllRoots.{follows-from_all, passes-world}
use Rattle.link_rules.proofs.laws_explanation.loaded_objects_follow_from_all_roots.Goals as goal

pub returns-clause-stages : goal.returns-clause-stages
returns-clause-stages c = λ world last ends. passes-world world last ends

pub returns-clause-loaded : goal.returns-clause-loaded
returns-clause-loaded c = λ world ws last passes. follows-from_all world ws last passes
