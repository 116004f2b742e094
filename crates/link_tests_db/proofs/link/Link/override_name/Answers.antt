use Rattle.std.proofs.Common.{length, ap, refl}
use Rattle.link_flags.specs.FlagWords.{words_of}
use Rattle.link_db_texts.specs.Holds.{platform_of}
use Rattle.link_db.specs.Database.{Database}
use Rattle.link_db.specs.Seen.{seen}
use Rattle.link_tests_db.specs.Staged.{IsAtStage}
use Rattle.link_tests_db.proofs.Stages as stages
use Rattle.link_tests_db.proofs.Whole as whole
use Rattle.link_tests_db.proofs.link.Link.override_name.Goals as goal

-- only what names are overridden with has changed
pub invariant_of-self : goal.invariant_of-self
invariant_of-self g c =
    let old = seen c.args.self.now.db in
    let words = words_of c.args.self.now.flags in
    let e = c.override_name.ensures.rest in
    record { whole = whole.kept old (seen c.override_name.new.self) words words (ap (λ (d : Database _). d.mapping.files) e) (ap (λ (d : Database _). length d.table) e) refl c.args.self.now.whole }

pub returns : goal.returns
unfolding IsAtStage
returns g c =
    let e = c.override_name.ensures.rest in
    stages.kept (platform_of g.P.Platform) c.args.self.now.stage (seen c.args.self.now.db) _ (ap (λ (d : Database _). d.options) e) (ap (λ (d : Database _). d.rules) e)
    (ap (λ (d : Database _). d.mapping.files.groups) e) c.requires.stage
