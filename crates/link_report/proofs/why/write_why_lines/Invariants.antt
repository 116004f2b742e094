use Rattle.std.proofs.Common.{◌≡◌, ◌++◌, drop}
use Rattle.std.specs.List.{flat_map}
use Rattle.std.specs.Prelude.{string_bytes}
use Rattle.link_report.specs.Why.{why_line}
use Rattle.link_report.proofs.why.write_why_lines.Given as goal

abbrev pub invariant-loop-reason : goal.invariant-loop-reason
invariant-loop-reason l =
    string_bytes l.text ++ flat_map why_line (drop l.reason-index l.reasons) ≡ string_bytes l.initial.text ++ flat_map why_line l.reasons
