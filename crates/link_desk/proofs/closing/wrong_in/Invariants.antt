use Rattle.std.proofs.Common.{ℕ, ◌<◌}
use Rattle.link_desk.specs.Passes.{IsRightAt}
use Rattle.link_desk.proofs.closing.wrong_in.Given as goal

abbrev pub invariant-loop-k : goal.invariant-loop-k
invariant-loop-k g l = (j : ℕ) → j < l.k → IsRightAt l.history l.passes l.p j
