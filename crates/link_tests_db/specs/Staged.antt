-- A link at its stage.
use Rattle.link_input.specs.declared.platform.Platform.{Ghosts}
use Rattle.link_db_texts.specs.Holds.{platform_of}
use Rattle.link_db.specs.Seen.{seen}
use Rattle.link_tests_db.specs.declared.link.Link.{Link}
use Rattle.link_tests_db.specs.Held.{IsAt}

-- its groups are those of its stage, and its rules are those of some texts
unfoldable pub IsAtStage : {P : Type 0} {G : Ghosts P} → Link P G → Type 0
IsAtStage {P} {G} link = IsAt (platform_of G) link.stage (seen link.db)
