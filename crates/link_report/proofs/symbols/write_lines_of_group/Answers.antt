use Rattle.std.proofs.Common.{◌+◌, arith, refl}
use Rattle.std.specs.Prelude.{string_bytes}
use Rattle.link_input.specs.InputFiles.{symbol_count}
use Rattle.link_input_groups.specs.Groups.{files_of}
use Rattle.link_input_groups.specs.SequencedInputs.{sequenced_file}
use Rattle.link_rules.specs.Report.{symbol_line}
use Rattle.link_core_answer.specs.Parts.{answer_of}
use Rattle.link_core_answer.specs.Seen.{seen}
use Rattle.link_report.proofs.Walked.{file-lines, files-count}
use Rattle.link_report.proofs.symbols.write_lines_of_group.Goals as goal

pub write_lines_of_file-requires : goal.write_lines_of_file-requires
write_lines_of_file-requires g c =
    let file = sequenced_file c.file-file.result in
    let count = files-count (files_of c.args.group.now) c.loop-place.place file (symbol_count file.file) c.file-file.ensures refl in
    omega (arith, count, c.loop-place.invariant.1, c.requires)

pub overflow_add-next : goal.overflow_add-next
overflow_add-next g c =
    let count = files-count (files_of c.args.group.now) c.loop-place.place (sequenced_file c.file-file.result) c.symbol_count-next.result c.file-file.ensures c.symbol_count-next.ensures in
    omega (arith, count, c.loop-place.invariant.1, c.requires, c.num_symbols.ensures.value, c.num_symbols.ensures.fits)

pub loop-place-preserved : goal.loop-place-preserved
loop-place-preserved g c =
    let answer = answer_of (seen c.args.linked.now) in
    let files = files_of c.args.group.now in
    let place = c.loop-place.place in
    let file = sequenced_file c.file-file.result in
    let next = c.loop-place.next + c.symbol_count-next.result in
    let count = files-count files place file c.symbol_count-next.result c.file-file.ensures c.symbol_count-next.ensures in (
      file-lines (symbol_line answer.table answer.flags) (string_bytes c.loop-place.text) (string_bytes c.write_lines_of_file.new.text) _ c.loop-place.next next files place
          file c.symbol_count-next.result c.file-file.ensures c.symbol_count-next.ensures refl c.in_ok-write_lines_of_file.ensures c.loop-place.invariant.0,
      omega (arith, count, c.loop-place.invariant.1),
    )
