use Rattle.std.proofs.Common.{ℕ, ◌≡◌, ◌<◌, length}
use Rattle.link_desk.specs.Passes.{AreClaimed, IsPassRight}
use Rattle.link_desk.proofs.closing.first_wrong.Given as goal

abbrev pub invariant-loop-p : goal.invariant-loop-p
invariant-loop-p g l = record {
  each : length l.claimed ≡ length l.history;
  claimed : AreClaimed l.claimed l.passes l.p;
  right : (q : ℕ) → q < l.p → IsPassRight l.history l.passes q;
}
