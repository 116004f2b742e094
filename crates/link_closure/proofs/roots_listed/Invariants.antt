use Rattle.std.proofs.Common.{◌<◌, ℕ, length}
use Rattle.std.specs.List.{Contains, All}
use Rattle.link_closure.specs.Graph.{IsMarked}
use Rattle.link_closure.proofs.roots_listed.Given as goal

abbrev pub invariant-loop-i : goal.invariant-loop-i
invariant-loop-i l = record {
  listed : (f : ℕ) → f < l.i → IsMarked l.roots f → Contains l.found.items f;
  only : (f : ℕ) → Contains l.found.items f → IsMarked l.roots f;
  below : All (λ f. f < length l.roots) l.found.items;
}
