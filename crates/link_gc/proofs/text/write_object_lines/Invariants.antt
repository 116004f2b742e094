use Rattle.std.proofs.Common.{◌≡◌, ◌++◌, ◌-◌, Contains}
use Rattle.std.specs.List.{flat_map, range_with_len}
use Rattle.std.specs.Prelude.{string_bytes}
use Rattle.link_gc.specs.Live.{AreLiveAt}
use Rattle.link_gc_sections.specs.SectionText.{object_lines, section_line}
use Rattle.link_resolve_discarded.specs.Indexed.{AreGroupsOf}
use Rattle.link_rules.specs.Comdat.{loaded_regular}
use Rattle.link_rules.specs.Selection.{Selection}
use Rattle.link_gc.proofs.text.write_object_lines.Given as goal

-- the lines so far, and those that are left
abbrev pub invariant-loop-section : goal.invariant-loop-section
invariant-loop-section g l =
    (s : Selection) → AreGroupsOf s.marks s.stage.objects l.groups → AreLiveAt s l.live.spans.items l.live.marks.items → Contains (loaded_regular s.stage s.marks) l.object
    → string_bytes l.text ++ flat_map (λ section. section_line s l.live.marks.items (l.object.0, section)) (range_with_len l.section (l.object.1.object.sections - l.section))
    ≡ string_bytes l.initial.text ++ object_lines s l.live.marks.items l.object
