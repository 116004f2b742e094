use Rattle.std.proofs.Common.{◌≡◌, drop}
use Rattle.link_input.specs.Checks.{first_place, is_outside_reference}
use Rattle.link_input.proofs.checks.outside_reference.Given as goal

abbrev pub invariant-loop-i : goal.invariant-loop-i
invariant-loop-i l = first_place (λ i. is_outside_reference l.sections l.symbols) 0 l.references ≡ first_place (λ i. is_outside_reference l.sections l.symbols) l.i (drop l.i l.references)
