use Rattle.std.proofs.Common.{take}
use Rattle.link_gc.specs.Numbering.{AreNumbersOf}
use Rattle.link_rules.specs.Selection.{Selection}
use Rattle.link_gc.proofs.MarkedItems.{AreMarked}
use Rattle.link_gc.proofs.Rooted.{HasNumber}
use Rattle.link_gc.proofs.roots.mark_retained_of.Given as goal

-- the marks at the start, and those of the sections so far
abbrev pub invariant-loop-section : goal.invariant-loop-section
invariant-loop-section g l =
    (s : Selection) → AreNumbersOf s l.numbers.spans.items l.numbers.groups.now → AreMarked (HasNumber s l.object.0) l.initial.marks (take l.section-index l.section-items) l.marks
