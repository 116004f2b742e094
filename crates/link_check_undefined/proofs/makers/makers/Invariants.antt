use Rattle.std.proofs.Common.{◌≡◌, ◌++◌, drop, filter}
use Rattle.link_check_undefined.specs.Made.{makes_new}
use Rattle.link_check_undefined.proofs.makers.makers.Given as goal

abbrev pub invariant-loop-reference : goal.invariant-loop-reference
invariant-loop-reference l = l.makers.items ++ filter (makes_new l.sections l.last) (drop l.reference-index l.left) ≡ filter (makes_new l.sections l.last) l.left
