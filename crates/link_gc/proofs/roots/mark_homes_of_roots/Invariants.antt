use Rattle.std.proofs.Common.{◌≡◌, map, take}
use Rattle.link_core_answer.specs.Seen.{seen}
use Rattle.link_gc.specs.Numbering.{IsOf, placed_number}
use Rattle.link_rules.specs.Selection.{Selection}
use Rattle.link_gc.proofs.MarkedItems.{AreMarked}
use Rattle.link_gc.proofs.Rooted.{HasHome}
use Rattle.link_gc.proofs.roots.mark_homes_of_roots.Given as goal

-- the marks at the start, and those of the roots so far
abbrev pub invariant-loop-id : goal.invariant-loop-id
invariant-loop-id g l =
    (s : Selection) → IsOf s (seen l.linked) → l.placed ≡ map (λ x. placed_number s x.origin) s.stage.symbols → AreMarked (HasHome s) l.initial.marks (take l.id-index l.id-items) l.marks
