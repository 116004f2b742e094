use Rattle.link_db_stage.proofs.Tables.{stands-for}
use Rattle.link_db_stage.proofs.a_reference_stands_for_its_target.Goals as goal

pub returns : goal.returns
returns g c = stands-for
