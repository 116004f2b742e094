use Rattle.std.proofs.Common.{◌≡◌, ◌++◌, drop, map}
use Rattle.std.specs.List.{flat_map}
use Rattle.std.specs.Prelude.{string_bytes}
use Rattle.link_rules.specs.Report.{loaded_line}
use Rattle.link_core_answer.specs.Parts.{told_object}
use Rattle.link_report.proofs.lines.write_loaded_lines.Given as goal

abbrev pub invariant-loop-object : goal.invariant-loop-object
invariant-loop-object g l =
    string_bytes l.text ++ flat_map loaded_line (map told_object (drop l.object-index l.objects))
    ≡ string_bytes l.initial.text ++ flat_map loaded_line (map told_object l.objects)
