use Rattle.std.proofs.Common.{◌<◌, arith, length}
use Rattle.std.specs.Prelude.{string_bytes}
use Rattle.link_rules.specs.Report.{symbol_line}
use Rattle.link_core_answer.specs.Parts.{answer_of}
use Rattle.link_core_answer.specs.Seen.{seen}
use Rattle.link_report.proofs.Walked.{group-lines, groups-count}
use Rattle.link_report.proofs.symbols.write_lines_of_groups.Goals as goal

pub loop-group-preserved : goal.loop-group-preserved
loop-group-preserved g c =
    let answer = answer_of (seen c.args.linked.now) in
    let groups = c.args.groups.now in
    let place = c.loop-group.group-index in
    let group = c.group-item.result in
    let lt : place < length groups = omega (arith, c.loop-group-test.true) in
    let count = groups-count groups place group lt c.group-item.is in (
      group-lines (symbol_line answer.table answer.flags) (string_bytes c.loop-group.text) (string_bytes c.write_lines_of_group.new.text) _ c.loop-group.next c.in_ok-next.next
          groups place group lt c.group-item.is c.in_ok-next.ensures.next c.in_ok-next.ensures.lines c.loop-group.invariant.0,
      omega (arith, count, c.in_ok-next.ensures.next, c.loop-group.invariant.1),
    )
