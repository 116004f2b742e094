use Rattle.std.proofs.Common.{subst, arith}
use Rattle.link_input.specs.InputFiles.{batch_of}
use Rattle.link_db_texts.specs.Holds.{platform_of}
use Rattle.link_db.specs.Seen.{seen}
use Rattle.link_tests_db.specs.declared.stage.Stage.{Stage}
use Rattle.link_tests_db.specs.declared.stage.Stage.TheVariants.{Batches}
use Rattle.link_tests_db.specs.Held.{IsAt}
use Rattle.link_tests_db.specs.Staged.{IsAtStage}
use Rattle.link_tests_db.proofs.Stages as stages
use Rattle.link_tests_db.proofs.link.Link.add.Goals as goal

pub add_inputs-requires-clause-held : goal.add_inputs-requires-clause-held
unfolding IsAtStage
add_inputs-requires-clause-held g c = λ _ _.
    let at : IsAt (platform_of g.P.Platform) (Batches c.in-Batches.count) (seen c.args.self.now.db) = subst (λ (s : Stage). IsAt (platform_of g.P.Platform) s (seen c.args.self.now.db)) c.in-Batches.is c.requires in
    (at.groups.0, at.groups.1.0, omega (arith, at.groups.1.1))

pub returns : goal.returns
unfolding IsAtStage
returns g c =
    let platform = platform_of g.P.Platform in
    let old = seen c.args.self.now.db in
    let call = c.add_inputs in
    let at : IsAt platform (Batches c.in-Batches.count) old = subst (λ (s : Stage). IsAt platform s old) c.in-Batches.is c.requires in
    stages.with_batch platform c.in-Batches.count old (seen call.new.self) (batch_of c.args.inputs) c.args.inputs.scripts call.result call.ensures.files call.ensures.grown call.ensures.texts call.ensures.unchanged at
