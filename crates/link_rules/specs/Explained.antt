-- The explanation of a link.
use Rattle.std.specs.Prelude.{◌≡◌, List}
use Rattle.link_rules.specs.declared.explanation.Explanation.{Explanation}
use Rattle.link_rules.specs.declared.explanation.FoundRoot.{FoundRoot}
use Rattle.link_rules.specs.Selection.{Selection}
use Rattle.link_rules.specs.Reasons.{AreReasons}
use Rattle.link_rules.specs.Choices.{name_choices}
use Rattle.link_rules.specs.FoundRoots.{Passes, found_roots}
use Rattle.link_rules.specs.World.{Stage, World}

-- it gives the reason of each loaded object, and the choice among the definitions of each name that has several
pub record Explains (l : Selection) (roots : List FoundRoot) (explanation : Explanation) : Type 0 where
  pub reasons : AreReasons l roots explanation.reasons
  pub choices : explanation.choices ≡ name_choices l

-- the explanation of a link of the world: of what is selected behind the last batch, by what was found for root names at all stages
abbrev pub IsExplanation : World → Explanation → Type 0
IsExplanation world explanation =
    (ws : List Stage) × (last : Selection) × Passes world ws last × Explains last (found_roots ws last.stage) explanation
