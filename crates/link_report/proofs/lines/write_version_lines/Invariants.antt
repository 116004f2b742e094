use Rattle.std.proofs.Common.{◌≡◌, ◌++◌, drop}
use Rattle.std.specs.List.{flat_map}
use Rattle.std.specs.Prelude.{string_bytes}
use Rattle.link_rules.specs.Report.{version_line}
use Rattle.link_report.proofs.lines.write_version_lines.Given as goal

abbrev pub invariant-loop-version : goal.invariant-loop-version
invariant-loop-version l =
    string_bytes l.text ++ flat_map version_line (drop l.version-index l.versions) ≡ string_bytes l.initial.text ++ flat_map version_line l.versions
