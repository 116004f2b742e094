use Rattle.std.proofs.Common.{◌≡◌, ◌++◌, drop}
use Rattle.std.specs.List.{flat_map}
use Rattle.std.specs.Prelude.{string_bytes}
use Rattle.link_rules.specs.Report.{kept_line}
use Rattle.link_report.proofs.lines.write_kept_lines.Given as goal

abbrev pub invariant-loop-group : goal.invariant-loop-group
invariant-loop-group l =
    string_bytes l.text ++ flat_map kept_line (drop l.group-index l.groups) ≡ string_bytes l.initial.text ++ flat_map kept_line l.groups
