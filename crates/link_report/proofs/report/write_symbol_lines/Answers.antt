use Rattle.std.specs.Prelude.{string_bytes}
use Rattle.link_db_files.specs.HeldFiles.{names_in}
use Rattle.link_rules.specs.Report.{symbol_line}
use Rattle.link_core_answer.specs.Parts.{answer_of}
use Rattle.link_core_answer.specs.Seen.{seen}
use Rattle.link_report.specs.Runs.{names_of_groups}
use Rattle.link_report.proofs.Walked.{held-names, lines-left}
use Rattle.link_report.proofs.report.write_symbol_lines.Goals as goal

-- behind the symbols of files stand those that the linker added
pub loop-id-init : goal.loop-id-init
loop-id-init g c =
    let answer = answer_of (seen c.args.linked.now) in
    let held = (seen c.args.linked.now).db.mapping.files in
    lines-left (symbol_line answer.table answer.flags) (string_bytes c.args.text.now) (string_bytes c.write_lines_of_files.new.text) c.in_ok-of_files.of_files
    (names_of_groups held.groups) held.added (names_in held) (held-names held) c.in_ok-of_files.ensures.count c.in_ok-of_files.ensures.lines
