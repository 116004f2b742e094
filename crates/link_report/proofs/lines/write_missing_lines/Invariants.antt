use Rattle.std.proofs.Common.{◌≡◌, ◌++◌, drop}
use Rattle.std.specs.List.{flat_map}
use Rattle.std.specs.Prelude.{string_bytes}
use Rattle.link_rules.specs.Report.{missing_line}
use Rattle.link_report.proofs.lines.write_missing_lines.Given as goal

abbrev pub invariant-loop-name : goal.invariant-loop-name
invariant-loop-name l =
    string_bytes l.text ++ flat_map missing_line (drop l.name-index l.names) ≡ string_bytes l.initial.text ++ flat_map missing_line l.names
