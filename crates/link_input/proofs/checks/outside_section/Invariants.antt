use Rattle.std.proofs.Common.{◌≡◌, drop}
use Rattle.link_input.specs.Checks.{first_place, is_outside}
use Rattle.link_input.proofs.checks.outside_section.Given as goal

abbrev pub invariant-loop-i : goal.invariant-loop-i
invariant-loop-i l = first_place (λ i. is_outside l.sections) 0 l.symbols ≡ first_place (λ i. is_outside l.sections) l.i (drop l.i l.symbols)
