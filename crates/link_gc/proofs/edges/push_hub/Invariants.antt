use Rattle.std.proofs.Common.{◌<◌, ℕ, All, take}
use Rattle.link_closure.specs.Graph.{AreInRange}
use Rattle.link_gc.proofs.Gathered.{AreGathered, IsSpoke}
use Rattle.link_gc.proofs.edges.push_hub.Given as goal

-- the edges at the start, and those of the members so far
abbrev pub invariant-loop-member : goal.invariant-loop-member
invariant-loop-member l = record {
  edges : AreGathered (IsSpoke l.hub) l.initial.edges.items (take l.member-index l.members) l.edges.items;
  in_range : (count : ℕ) → All (λ n. n < count) l.members → AreInRange count l.initial.edges.items → AreInRange count l.edges.items;
}
