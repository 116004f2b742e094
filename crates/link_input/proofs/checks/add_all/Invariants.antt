use Rattle.std.proofs.Common.{◌≡◌, ◌==◌, ◌||◌, ℕ, take}
use Rattle.std.specs.Ordering.{nat_cmp}
use Rattle.std.specs.List.{list_any}
use Rattle.std.specs.BTreeSet.{contains}
use Rattle.link_input.proofs.checks.add_all.Given as goal

abbrev pub invariant-loop-member : goal.invariant-loop-member
invariant-loop-member l =
    (q : ℕ) → contains nat_cmp l.sections q ≡ (contains nat_cmp l.initial.sections q || list_any (λ member. member == q) (take l.member-index l.members))
