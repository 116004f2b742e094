use Rattle.std.proofs.Common.{◌≡◌, drop}
use Rattle.std.specs.Ordering.{nat_cmp}
use Rattle.std.specs.BTreeSet.{contains}
use Rattle.link_input.specs.Checks.{first_place}
use Rattle.link_input.proofs.checks.first_header_in.Given as goal

abbrev pub invariant-loop-i : goal.invariant-loop-i
invariant-loop-i l = first_place (λ i g. contains nat_cmp l.sections g.index) 0 l.groups ≡ first_place (λ i g. contains nat_cmp l.sections g.index) l.i (drop l.i l.groups)
