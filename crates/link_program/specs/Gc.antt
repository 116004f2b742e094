-- What `gc` writes.
use Rattle.std.specs.Prelude.{List}
use Rattle.link_gc_sections.specs.SectionText.{IsSectionText}
use Rattle.link_rules.specs.Answer.{IsLinked}
use Rattle.link_rules.specs.Linked.{Linked as Answer}
use Rattle.link_rules.specs.Places.{Bytes}
use Rattle.link_rules.specs.World.{World}

-- the sections of a link of the world, which isn't refused
abbrev pub IsGcReport : World → Bytes → Type 0
IsGcReport w text = (linked : Answer) × IsLinked w linked × IsSectionText w text
