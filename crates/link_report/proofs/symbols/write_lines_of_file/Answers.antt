use Rattle.std.proofs.Common.{◌+◌, arith, drop}
use Rattle.std.specs.Prelude.{string_bytes}
use Rattle.link_input_groups.specs.SequencedInputs.{sequenced_file}
use Rattle.link_input_groups.proofs.FileTotals.{drop-at}
use Rattle.link_rules.specs.Report.{symbol_line}
use Rattle.link_core_answer.specs.Parts.{answer_of}
use Rattle.link_core_answer.specs.Seen.{seen}
use Rattle.link_report.specs.Runs.{names_of_file}
use Rattle.link_report.proofs.Walked.{line-more}
use Rattle.link_report.proofs.symbols.write_lines_of_file.Goals as goal

pub loop-place-preserved : goal.loop-place-preserved
loop-place-preserved g c =
    let answer = answer_of (seen c.args.linked.now) in
    let line = symbol_line answer.table answer.flags in
    let names = names_of_file (sequenced_file c.args.file.now).file in
    let place = c.loop-place.place in
    line-more line (string_bytes c.loop-place.text) (string_bytes c.write_line_of_symbol.new.text) _ (c.args.first + place) c.from_usize-id.result
    (c.args.first + (place + 1)) (drop place names) (drop (place + 1) names) c.name_at.result c.from_usize-id.ensures
    (drop-at names place c.name_at.result c.name_at.ensures) (omega arith) c.in_ok-write_line_of_symbol.ensures c.loop-place.invariant
