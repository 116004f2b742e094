use Rattle.std.proofs.Common.{◌≡◌, ℕ, take}
use Rattle.std.specs.Ordering.{nat_cmp}
use Rattle.std.specs.BTreeSet.{contains}
use Rattle.link_input.specs.Checks.{is_member}
use Rattle.link_input.proofs.checks.members_of.Given as goal

abbrev pub invariant-loop-group : goal.invariant-loop-group
invariant-loop-group l = (q : ℕ) → contains nat_cmp l.sections q ≡ is_member (take l.group-index l.groups) q
