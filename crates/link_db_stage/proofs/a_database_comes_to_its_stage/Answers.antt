use Rattle.link_db_stage.proofs.Mappings.{comes-to}
use Rattle.link_db_stage.proofs.a_database_comes_to_its_stage.Goals as goal

pub returns : goal.returns
returns g c = comes-to
