use Rattle.link_db_texts.specs.Holds.{platform_of}
use Rattle.link_db.specs.Seen.{seen}
use Rattle.link_tests_db.specs.Staged.{IsAtStage}
use Rattle.link_tests_db.proofs.Stages as stages
use Rattle.link_tests_db.proofs.link.Link.new.Goals as goal

pub returns : goal.returns
unfolding IsAtStage
returns g c = stages.started (platform_of g.P.Platform) (seen c.in_ok-db.db) c.args.setup.options c.args.setup.texts c.args.setup.workers c.in_ok-db.ensures.empty c.in_ok-db.ensures.holds
