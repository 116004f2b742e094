-- The live sections of a link as they are kept.
use Rattle.std.specs.Prelude.{◌≡◌, ◌&&◌, Bool, List, Ok}
use Rattle.std.specs.List.{enumerate_from}
use Rattle.link_closure.specs.Closure.{is_marked}
use Rattle.link_rules.specs.Answer.{BatchesEnd}
use Rattle.link_rules.specs.Selection.{Selection}
use Rattle.link_rules.specs.Undefined.{resolved}
use Rattle.link_rules.specs.World.{World}
use Rattle.link_gc_sections.specs.LiveSections.{AreLive, SectionPlace, is_loaded_section, section_number}
use Rattle.link_gc.specs.declared.live.LiveSections.{LiveSections}
use Rattle.link_gc.specs.declared.numbers.SectionSpan.{SectionSpan}
use Rattle.link_gc.specs.Numbering.{spans_from}

-- they are those of a selection
pub record AreLiveAt (l : Selection) (spans : List SectionSpan) (marks : List Bool) : Type 0 where
  pub spans_are : spans ≡ spans_from l.marks 0 (enumerate_from 0 l.stage.objects)
  pub live : AreLive (resolved l) marks

-- the section is one of a loaded regular object, and it has a mark
abbrev pub is_live : Selection → List Bool → SectionPlace → Bool
is_live l marks p = is_loaded_section l p && is_marked marks (section_number l.stage p)

-- they are those of a link of the world
abbrev pub AreOf : World → LiveSections → Type 0
AreOf w live = (l : Selection) × BatchesEnd w (Ok l) × AreLiveAt l live.spans.items live.marks.items
