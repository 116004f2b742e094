use Rattle.std.proofs.Common.{◌≡◌, ◌++◌, drop}
use Rattle.std.specs.Prelude.{string_bytes}
use Rattle.link_rules.specs.Places.{each_from}
use Rattle.link_rules.specs.Report.{joined_lines, symbol_line}
use Rattle.link_core_answer.specs.Parts.{answer_of}
use Rattle.link_core_answer.specs.Seen.{seen}
use Rattle.link_report.proofs.report.write_symbol_lines.Given as goal

abbrev pub invariant-loop-id : goal.invariant-loop-id
invariant-loop-id g l =
    let answer = answer_of (seen l.linked) in
    string_bytes l.text ++ joined_lines (each_from (symbol_line answer.table answer.flags) l.id (drop l.id answer.names))
    ≡ string_bytes l.fn.text ++ joined_lines (each_from (symbol_line answer.table answer.flags) 0 answer.names)
