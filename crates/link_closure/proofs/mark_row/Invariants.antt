use Rattle.std.proofs.Common.{◌≡◌, ◌+◌, ◌<◌, ◌⊎◌, ℕ, not, length, count_by, take}
use Rattle.std.specs.List.{Contains, All}
use Rattle.link_closure.specs.Graph.{IsMarked}
use Rattle.link_closure.proofs.mark_row.Given as goal

abbrev pub invariant-loop-number : goal.invariant-loop-number
invariant-loop-number l = record {
  row : (g : ℕ) → Contains (take l.number-index l.row) g → IsMarked l.marks g;
  kept : (f : ℕ) → IsMarked l.initial.marks f → IsMarked l.marks f;
  waits : (f : ℕ) → IsMarked l.marks f → IsMarked l.initial.marks f ⊎ Contains l.todo.items f;
  only : (f : ℕ) → IsMarked l.marks f → IsMarked l.initial.marks f ⊎ Contains l.row f;
  waiting : (f : ℕ) → Contains l.initial.todo.items f → Contains l.todo.items f;
  listed : (f : ℕ) → Contains l.todo.items f → Contains l.initial.todo.items f ⊎ IsMarked l.marks f;
  below : All (λ f. f < length l.marks) l.initial.todo.items → All (λ f. f < length l.marks) l.todo.items;
  fewer : count_by not l.marks + length l.todo.items ≡ count_by not l.initial.marks + length l.initial.todo.items;
}
