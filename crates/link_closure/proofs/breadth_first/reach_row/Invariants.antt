use Rattle.std.proofs.Common.{take}
use Rattle.std.specs.List.{Contains}
use Rattle.link_closure.specs.Levels.{Layered}
use Rattle.link_closure.proofs.breadth_first.reach_row.Given as goal

-- all numbers so far are reached
abbrev pub invariant-loop-number : goal.invariant-loop-number
invariant-loop-number l = Layered (Contains (take l.number-index l.row)) l.level l.initial.levels l.levels l.initial.layer.items l.layer.items
