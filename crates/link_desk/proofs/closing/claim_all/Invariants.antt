use Rattle.std.proofs.Common.{ℕ, ◌≡◌, ◌⊎◌, ◌<◌, Some, length, slice_get}
use Rattle.link_closure.specs.Graph.{IsMarked}
use Rattle.link_desk.specs.declared.pass.Kept.{Kept}
use Rattle.link_desk.proofs.closing.claim_all.Given as goal

abbrev pub invariant-loop-call : goal.invariant-loop-call
invariant-loop-call l = record {
  each : length l.claimed ≡ length l.initial.claimed;
  claimed : (j : ℕ) (y : Kept) → j < l.call-index → slice_get l.calls j ≡ Some y → y.place < length l.initial.claimed → IsMarked l.claimed y.place;
  kept : (i : ℕ) → IsMarked l.initial.claimed i → IsMarked l.claimed i;
  only : (i : ℕ) → IsMarked l.claimed i → IsMarked l.initial.claimed i ⊎ ((j : ℕ) × (y : Kept) × (slice_get l.calls j ≡ Some y) × (y.place ≡ i));
}
