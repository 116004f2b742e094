use Rattle.std.proofs.Common.{◌≡◌, map}
use Rattle.std.specs.List.{range_with_len}
use Rattle.link_claim.specs.Seats.{claimed_in}
use Rattle.link_closure.specs.Closure.{is_marked}
use Rattle.link_gc_marking.proofs.claimed_marks.Given as goal

-- the marks so far
abbrev pub invariant-loop-file : goal.invariant-loop-file
invariant-loop-file l = l.marks.items ≡ map (is_marked (claimed_in l.closed)) (range_with_len 0 l.file)
