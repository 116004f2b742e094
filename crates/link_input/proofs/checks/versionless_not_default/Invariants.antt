use Rattle.std.proofs.Common.{◌≡◌, drop}
use Rattle.link_input.specs.Checks.{first_place, is_versionless_not_default}
use Rattle.link_input.proofs.checks.versionless_not_default.Given as goal

abbrev pub invariant-loop-i : goal.invariant-loop-i
invariant-loop-i l = first_place (λ i. is_versionless_not_default) 0 l.symbols ≡ first_place (λ i. is_versionless_not_default) l.i (drop l.i l.symbols)
