use Rattle.std.proofs.Common.{◌≡◌, ◌++◌, [], map, take}
use Rattle.link_rules.specs.Selection.{surviving_origin}
use Rattle.link_check_groups.specs.Sections.{discarded_among}
use Rattle.link_check_groups.proofs.groups.LoadedGroups.surviving_strengths.Given as goal

abbrev pub invariant-loop-symbol : goal.invariant-loop-symbol
invariant-loop-symbol l =
    l.strengths.items ≡ [] ++ map (λ x. surviving_origin l.marks (discarded_among l.self) x.origin) (take l.symbol-index l.symbols)
