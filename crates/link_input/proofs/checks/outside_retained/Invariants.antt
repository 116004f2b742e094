use Rattle.std.proofs.Common.{◌≡◌, drop}
use Rattle.std.specs.Prelude.{nat_le}
use Rattle.link_input.specs.Checks.{first_place}
use Rattle.link_input.proofs.checks.outside_retained.Given as goal

abbrev pub invariant-loop-i : goal.invariant-loop-i
invariant-loop-i l = first_place (λ i section. nat_le l.sections section) 0 l.retained ≡ first_place (λ i section. nat_le l.sections section) l.i (drop l.i l.retained)
