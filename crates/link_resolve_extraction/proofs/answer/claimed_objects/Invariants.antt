use Rattle.std.proofs.Common.{◌≡◌, map}
use Rattle.std.specs.List.{range_with_len}
use Rattle.link_claim.specs.Seats.{claimed_in}
use Rattle.link_closure.specs.Closure.{is_marked}
use Rattle.link_resolve_extraction.proofs.answer.claimed_objects.Given as goal

abbrev pub invariant-loop-object : goal.invariant-loop-object
invariant-loop-object l = l.marks.items ≡ map (is_marked (claimed_in l.closed)) (range_with_len 0 l.object)
