use Rattle.std.proofs.Common.{ap}
use Rattle.link_db_texts.specs.Holds.{platform_of}
use Rattle.link_db.specs.Database.{Database}
use Rattle.link_db.specs.Seen.{seen}
use Rattle.link_tests_db.specs.Staged.{IsAtStage}
use Rattle.link_tests_db.proofs.Stages as stages
use Rattle.link_tests_db.proofs.link.Link.write_table.Goals as goal

-- the database is as before
pub returns : goal.returns
unfolding IsAtStage
returns g c =
    let e = c.write_table.ensures in
    stages.kept (platform_of g.P.Platform) c.args.self.now.stage (seen c.args.self.now.db) _ (ap (λ (d : Database _). d.options) e) (ap (λ (d : Database _). d.rules) e)
    (ap (λ (d : Database _). d.mapping.files.groups) e) c.requires
