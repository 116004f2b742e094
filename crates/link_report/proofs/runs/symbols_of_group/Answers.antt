use Rattle.std.proofs.Common.{arith}
use Rattle.link_input_groups.specs.Groups.{files_of}
use Rattle.link_input_groups.specs.SequencedInputs.{sequenced_file}
use Rattle.link_report.proofs.Walked.{files-count}
use Rattle.link_report.proofs.runs.symbols_of_group.Goals as goal

pub overflow_add-count : goal.overflow_add-count
overflow_add-count g c =
    let more = files-count (files_of c.args.group.now) c.loop-place.place (sequenced_file c.file.result) c.symbol_count-count.result c.file.ensures c.symbol_count-count.ensures in
    omega (arith, more, c.loop-place.invariant, c.requires)

pub loop-place-preserved : goal.loop-place-preserved
loop-place-preserved g c =
    let more = files-count (files_of c.args.group.now) c.loop-place.place (sequenced_file c.file.result) c.symbol_count-count.result c.file.ensures c.symbol_count-count.ensures in
    omega (arith, more, c.loop-place.invariant)
