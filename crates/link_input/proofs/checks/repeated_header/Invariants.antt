use Rattle.std.proofs.Common.{◌≡◌, ◌==◌, ℕ, drop, take}
use Rattle.std.specs.Ordering.{nat_cmp}
use Rattle.std.specs.List.{list_any}
use Rattle.std.specs.BTreeSet.{contains}
use Rattle.link_input.specs.Checks.{first_place, repeats_header}
use Rattle.link_input.proofs.checks.repeated_header.Given as goal

abbrev pub invariant-loop-i : goal.invariant-loop-i
invariant-loop-i l =
    (first_place (repeats_header l.groups) 0 l.groups ≡ first_place (repeats_header l.groups) l.i (drop l.i l.groups))
    × ((q : ℕ) → contains nat_cmp l.headers q ≡ list_any (λ earlier. earlier.index == q) (take l.i l.groups))
