use Rattle.std.proofs.Common.{◌≡◌, filter}
use Rattle.std.specs.List.{range_with_len}
use Rattle.link_closure.specs.Closure.{is_marked}
use Rattle.link_gc_marking.proofs.plan.marked_numbers.Given as goal

-- the numbers so far
abbrev pub invariant-loop-number : goal.invariant-loop-number
invariant-loop-number l = l.numbers.items ≡ filter (is_marked l.marks) (range_with_len 0 l.number)
