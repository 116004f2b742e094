use Rattle.std.proofs.Common.{◌≡◌, ◌<◌, ℕ, slice_get}
use Rattle.link_check.proofs.comparing.are_same.Given as goal

-- so far they agree
abbrev pub invariant-loop-place : goal.invariant-loop-place
invariant-loop-place l = (j : ℕ) → j < l.place → slice_get l.claimed j ≡ slice_get l.due j
