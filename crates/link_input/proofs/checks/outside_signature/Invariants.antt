use Rattle.std.proofs.Common.{◌≡◌, drop}
use Rattle.std.specs.Prelude.{nat_le}
use Rattle.link_input.specs.Checks.{first_place}
use Rattle.link_input.proofs.checks.outside_signature.Given as goal

abbrev pub invariant-loop-i : goal.invariant-loop-i
invariant-loop-i l = first_place (λ i g. nat_le l.symbols g.signature_symbol) 0 l.groups ≡ first_place (λ i g. nat_le l.symbols g.signature_symbol) l.i (drop l.i l.groups)
