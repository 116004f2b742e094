use Rattle.std.proofs.Common.{◌≡◌, ◌++◌, [], drop}
use Rattle.std.specs.List.{flat_map, slice_index_or}
use Rattle.std.specs.Prelude.{string_bytes}
use Rattle.link_db_files.specs.HeldFiles.{names_in, version_of}
use Rattle.link_core_answer.specs.Seen.{seen}
use Rattle.link_report.specs.Why.{rule_line}
use Rattle.link_report.proofs.why.write_rule_lines.Given as goal

abbrev pub invariant-loop-choice : goal.invariant-loop-choice
invariant-loop-choice g l =
    let held = (seen l.linked).db.mapping.files in
    let lines = flat_map (rule_line (λ s. slice_index_or (names_in held) s []) (version_of held)) in
    string_bytes l.text ++ lines (drop l.choice-index l.choices) ≡ string_bytes l.initial.text ++ lines l.choices
