use Rattle.std.proofs.Common.{◌≡◌, ◌+◌, ◌<◌, ℕ, not, length, count_by}
use Rattle.std.specs.List.{All, Contains}
use Rattle.link_closure.specs.Closure.{IsPartOfEachClosed, is_marked}
use Rattle.link_closure.specs.Graph.{IsMarked, Leads}
use Rattle.link_closure.proofs.Waiting.{WaitsOrIsDone}
use Rattle.link_closure.proofs.closed_over_rows.Given as goal

abbrev pub invariant-loop-number : goal.invariant-loop-number
invariant-loop-number l = record {
  each : length l.marks.items ≡ length l.roots;
  roots : (f : ℕ) → IsMarked l.roots f → IsMarked l.marks.items f;
  least : IsPartOfEachClosed (IsMarked l.roots) (Leads l.graph) (is_marked l.marks.items);
  below : All (λ f. f < length l.roots) l.todo.items;
  listed : (f : ℕ) → Contains l.todo.items f → IsMarked l.marks.items f;
  done : (f : ℕ) → WaitsOrIsDone l.graph l.marks.items l.todo.items f;
}

abbrev pub decreases-loop-number : goal.decreases-loop-number
decreases-loop-number l = count_by not l.marks.items + length l.todo.items
