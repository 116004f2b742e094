use Rattle.std.proofs.Common.{◌≡◌, ◌∷◌, ℕ, drop, if◌then◌else◌, slice_index}
use Rattle.link_rules.specs.Places.{contains}
use Rattle.link_resolve_rivals.proofs.settling.point_to.Given as goal

abbrev pub invariant-loop-symbol : goal.invariant-loop-symbol
invariant-loop-symbol l =
    (s : ℕ) → (if contains s (drop l.symbol-index l.later) then l.target else slice_index l.table s)
    ≡ (if contains s (l.fn.head ∷ l.later) then l.target else slice_index l.fn.table s)
