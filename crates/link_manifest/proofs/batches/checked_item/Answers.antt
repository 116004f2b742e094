use Rattle.std.specs.Prelude.{Ok}
use Rattle.link_manifest.specs.Batches.{inputs_of}
use Rattle.link_manifest.specs.Checked.{batch_checked}
use Rattle.link_manifest.specs.Reading.{and_read}
use Rattle.link_manifest.proofs.PassingBatches.{read-fails, read-passes, read-same}
use Rattle.link_manifest.proofs.batches.checked_item.Goals as goal

pub returns-clause-same : goal.returns-clause-same
returns-clause-same g c =
    let checked = batch_checked g.P.Platform.HAS_NULL_SYMBOL_ENTRY c.args.batch in
    read-same c.args.place checked (inputs_of c.args.batch) c.at_item.result (c.at_item.ensures (and_read checked (λ _. Ok (inputs_of c.args.batch))) c.checked_batch.ensures)

pub returns-clause-passes : goal.returns-clause-passes
returns-clause-passes g c =
    let checked = batch_checked g.P.Platform.HAS_NULL_SYMBOL_ENTRY c.args.batch in
    read-passes c.args.place checked (inputs_of c.args.batch) c.at_item.result (c.at_item.ensures (and_read checked (λ _. Ok (inputs_of c.args.batch))) c.checked_batch.ensures)

pub returns-clause-fails : goal.returns-clause-fails
returns-clause-fails g c =
    let checked = batch_checked g.P.Platform.HAS_NULL_SYMBOL_ENTRY c.args.batch in
    read-fails c.args.place checked (inputs_of c.args.batch) c.at_item.result (c.at_item.ensures (and_read checked (λ _. Ok (inputs_of c.args.batch))) c.checked_batch.ensures)
