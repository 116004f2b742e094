use Rattle.std.proofs.Common.{◌≡◌, map}
use Rattle.std.specs.List.{range_with_len}
use Rattle.link_resolve_explanation.specs.Gathered.{checked_head}
use Rattle.link_resolve_explanation.proofs.gathering.checked_heads.Given as goal

abbrev pub invariant-loop-number : goal.invariant-loop-number
invariant-loop-number l = l.heads.items ≡ map (checked_head l.found) (range_with_len 0 l.number)
