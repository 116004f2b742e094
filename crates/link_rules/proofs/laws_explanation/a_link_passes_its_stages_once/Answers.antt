use Rattle.link_rules.specs.World.{start_of}
use Rattle.link_rules.proofs.AllRoots.{fewer-names, passes-more, passes-once}
use Rattle.link_rules.proofs.laws_explanation.a_link_passes_its_stages_once.Goals as goal

pub returns-clause-once : goal.returns-clause-once
returns-clause-once c = λ world ws vs l k first second. passes-once (start_of world) world.first world.later ws vs l k first second

pub returns-clause-more : goal.returns-clause-more
returns-clause-more c = λ before b later more ws l passes. passes-more before b later more ws l passes

pub returns-clause-names : goal.returns-clause-names
returns-clause-names c = λ world ws last passes. fewer-names world ws last passes
