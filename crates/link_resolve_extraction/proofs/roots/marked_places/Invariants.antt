use Rattle.std.proofs.Common.{◌≡◌, filter}
use Rattle.std.specs.List.{range_with_len}
use Rattle.link_closure.specs.Closure.{is_marked}
use Rattle.link_resolve_extraction.proofs.roots.marked_places.Given as goal

-- the places so far
abbrev pub invariant-loop-place : goal.invariant-loop-place
invariant-loop-place l = l.places.items ≡ filter (is_marked l.marks) (range_with_len 0 l.place)
