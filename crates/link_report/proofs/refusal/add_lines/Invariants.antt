use Rattle.std.proofs.Common.{◌≡◌, ◌++◌, drop, codes}
use Rattle.std.specs.List.{flat_map}
use Rattle.link_report.proofs.refusal.add_lines.Given as goal

abbrev pub invariant-loop-line : goal.invariant-loop-line
invariant-loop-line l =
    l.text.items ++ flat_map (λ line. codes "\n" ++ line) (drop l.line-index l.lines)
    ≡ l.initial.text.items ++ flat_map (λ line. codes "\n" ++ line) l.lines
