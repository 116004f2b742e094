use Rattle.std.proofs.Common.{◌≡◌, ℕ, length, take}
use Rattle.link_resolve_discarded.specs.Indexed.{index_at, index_of}
use Rattle.link_resolve_discarded.proofs.indices.index_column.Given as goal

-- the column has the indices of the objects so far
abbrev pub invariant-loop-index : goal.invariant-loop-index
invariant-loop-index g l = record {
  long : length l.indices.items ≡ l.places;
  indices : (f : ℕ) → index_at l.indices.items f ≡ index_of (take l.index l.objects) f;
}
