-- What `why` writes.
use Rattle.std.specs.Prelude.{◌≡◌, List}
use Rattle.link_report.specs.Why.{name_at, version_at, why_text}
use Rattle.link_rules.specs.declared.explanation.Explanation.{Explanation}
use Rattle.link_rules.specs.Answer.{IsLinked}
use Rattle.link_rules.specs.Explained.{Explains}
use Rattle.link_rules.specs.FoundRoots.{Passes, found_roots}
use Rattle.link_rules.specs.Linked.{Linked as Answer}
use Rattle.link_rules.specs.Places.{Bytes}
use Rattle.link_rules.specs.Selection.{Selection}
use Rattle.link_rules.specs.World.{Stage, World}

-- the explanation of what is selected behind the last batch, by what was found for root names at all stages, with the names and versions of the symbols
abbrev pub IsExplanationText : World → Bytes → Type 0
IsExplanationText w text = (ws : List Stage) × (last : Selection) × (explanation : Explanation)
    × Passes w ws last × Explains last (found_roots ws last.stage) explanation × (text ≡ why_text (name_at last.stage.symbols) (version_at last.stage.symbols) explanation)

-- the explanation of a link of the world, which isn't refused
abbrev pub IsWhyReport : World → Bytes → Type 0
IsWhyReport w text = (linked : Answer) × IsLinked w linked × IsExplanationText w text
