use Rattle.std.proofs.Common.{take}
use Rattle.link_gc.specs.Numbering.{AreNumbersOf}
use Rattle.link_rules.specs.Selection.{Selection}
use Rattle.link_gc.proofs.MarkedItems.{AreMarked}
use Rattle.link_gc.proofs.Rooted.{IsRetainedOf}
use Rattle.link_gc.proofs.roots.mark_retained.Given as goal

-- the marks at the start, and those of the objects so far
abbrev pub invariant-loop-object : goal.invariant-loop-object
invariant-loop-object g l =
    (s : Selection) → AreNumbersOf s l.numbers.spans.items l.numbers.groups.now → AreMarked (IsRetainedOf s) l.initial.marks (take l.object-index l.objects) l.marks
