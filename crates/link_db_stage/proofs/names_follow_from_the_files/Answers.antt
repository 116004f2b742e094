use Rattle.link_db_stage.proofs.Mappings.{lists-alike, mapping-alike}
use Rattle.link_db_stage.proofs.names_follow_from_the_files.Goals as goal

pub returns-clause-lists : goal.returns-clause-lists
returns-clause-lists g c = lists-alike

pub returns-clause-mapping : goal.returns-clause-mapping
returns-clause-mapping g c = mapping-alike
