use Rattle.std.proofs.Common.{◌≡◌, map}
use Rattle.std.specs.List.{range_with_len}
use Rattle.link_check_claims.specs.Claims.{is_claimed}
use Rattle.link_check.proofs.marking.claimed_marks.Given as goal

abbrev pub invariant-loop-place : goal.invariant-loop-place
invariant-loop-place l = l.marks.items ≡ map (is_claimed l.loaded) (range_with_len 0 l.place)
