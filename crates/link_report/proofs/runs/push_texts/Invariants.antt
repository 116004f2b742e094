use Rattle.std.proofs.Common.{◌≡◌, ◌++◌}
use Rattle.std.specs.List.{flat_map}
use Rattle.std.specs.Prelude.{string_bytes}
use Rattle.link_report.proofs.runs.push_texts.Given as goal

-- the texts so far are added
abbrev pub invariant-texts : goal.invariant-texts
invariant-texts l = string_bytes l.text ≡ string_bytes l.fn.text ++ flat_map string_bytes l.yielded
