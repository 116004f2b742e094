-- What is told of each section of a loaded regular object.
use Rattle.std.specs.Prelude.{◌≡◌, ℕ, List, ◌∷◌, [], ◌++◌, Bool, Ok, codes, decimal, if◌then◌else◌}
use Rattle.std.specs.List.{flat_map, range_with_len}
use Rattle.link_closure.specs.Closure.{is_marked}
use Rattle.link_input.specs.ObjectFile.{ObjectFile}
use Rattle.link_rules.specs.Answer.{BatchesEnd}
use Rattle.link_rules.specs.Comdat.{loaded_regular}
use Rattle.link_rules.specs.Places.{Bytes}
use Rattle.link_rules.specs.Selection.{Selection}
use Rattle.link_rules.specs.Undefined.{resolved}
use Rattle.link_rules.specs.World.{World}
use Rattle.link_gc_sections.specs.LiveSections.{AreLive, SectionPlace, is_gone, section_number}

-- it goes with its group, or it is live, or nothing keeps it
abbrev pub section_word : Selection → List Bool → SectionPlace → Bytes
section_word l live p = if is_gone l p then codes "gone" else (if is_marked live (section_number l.stage p) then codes "live" else codes "dead")

-- the line of a section: the word, the place of its object, and its number there
abbrev pub section_line : Selection → List Bool → SectionPlace → Bytes
section_line l live p = section_word l live p ++ codes " " ++ decimal p.0 ++ codes " " ++ decimal p.1 ++ codes "\n"

-- the lines of an object's sections, in their order
abbrev pub object_lines : Selection → List Bool → ℕ × ObjectFile → Bytes
object_lines l live o = flat_map (λ section. section_line l live (o.0, section)) (range_with_len 0 o.1.object.sections)

-- the lines of the loaded regular objects, in their order
abbrev pub section_text : Selection → List Bool → Bytes
section_text l live = flat_map (object_lines l live) (loaded_regular l.stage l.marks)

-- the text of a link of the world
abbrev pub IsSectionText : World → Bytes → Type 0
IsSectionText w text = (l : Selection) × (live : List Bool) × BatchesEnd w (Ok l) × AreLive (resolved l) live × (text ≡ section_text l live)
