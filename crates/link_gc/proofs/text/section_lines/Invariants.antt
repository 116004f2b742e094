use Rattle.std.proofs.Common.{◌≡◌, take}
use Rattle.std.specs.List.{flat_map}
use Rattle.std.specs.Prelude.{string_bytes}
use Rattle.link_core_answer.specs.Seen.{seen}
use Rattle.link_gc.specs.Live.{AreLiveAt}
use Rattle.link_gc.specs.Numbering.{IsOf}
use Rattle.link_gc_sections.specs.SectionText.{object_lines}
use Rattle.link_rules.specs.Selection.{Selection}
use Rattle.link_gc.proofs.text.section_lines.Given as goal

-- the lines of the objects so far
abbrev pub invariant-loop-object : goal.invariant-loop-object
invariant-loop-object g l =
    (s : Selection) → IsOf s (seen l.linked) → AreLiveAt s l.live.spans.items l.live.marks.items
    → string_bytes l.text ≡ flat_map (object_lines s l.live.marks.items) (take l.object-index l.object-items)
