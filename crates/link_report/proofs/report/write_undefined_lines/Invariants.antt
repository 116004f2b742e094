use Rattle.std.proofs.Common.{◌≡◌, ◌++◌, drop, map}
use Rattle.std.specs.List.{flat_map}
use Rattle.std.specs.Prelude.{string_bytes}
use Rattle.link_rules.specs.Report.{undefined_line}
use Rattle.link_core_answer.specs.Parts.{undefined_name}
use Rattle.link_core_answer.specs.Seen.{seen}
use Rattle.link_report.proofs.report.write_undefined_lines.Given as goal

abbrev pub invariant-loop-id : goal.invariant-loop-id
invariant-loop-id g l =
    let files = (seen l.linked).db.mapping.files in
    string_bytes l.text ++ flat_map undefined_line (map (undefined_name files) (drop l.id-index (seen l.linked).undefined))
    ≡ string_bytes l.initial.text ++ flat_map undefined_line (map (undefined_name files) (seen l.linked).undefined)
