use Rattle.std.proofs.Common.{◌≡◌, [], ℕ, get_or, length}
use Rattle.link_resolve_roots.proofs.noting.make_lists.Given as goal

-- the lists that there were, and empty ones behind them
abbrev pub invariant-loop-place : goal.invariant-loop-place
invariant-loop-place l = record {
  same : (i : ℕ) → get_or l.others.items i [] ≡ get_or l.initial.others.items i [];
  each : length l.others.items ≡ l._place;
}
