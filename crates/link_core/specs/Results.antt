-- What comes of the link of some batches, with options and texts.
use Rattle.std.specs.Prelude.{◌≡◌, List}
use Rattle.std.specs.Option.{IsSomeAnd}
use Rattle.link_input.specs.declared.options.Options.{Options}
use Rattle.link_input.specs.declared.world.Scripts.{Scripts}
use Rattle.link_input.specs.InputFiles.{Batch}
use Rattle.link_rules.specs.declared.explanation.Explanation.{Explanation}
use Rattle.link_rules.specs.declared.refusal.LinkError.{LinkError}
use Rattle.link_rules.specs.Answer.{IsLinked, IsRefused}
use Rattle.link_rules.specs.Explained.{IsExplanation}
use Rattle.link_rules.specs.Linked.{Linked}
use Rattle.link_rules.specs.Loading.{root_symbols}
use Rattle.link_rules.specs.Places.{Bytes}
use Rattle.link_rules.specs.Rules.{PlatformRules}
use Rattle.link_rules.specs.Selection.{Selection}
use Rattle.link_rules.specs.World.{World}
use Rattle.link_core_answer.specs.Parts.{Parts}
use Rattle.link_core.specs.Given.{world_of_batches}
use Rattle.link_core.specs.Steps.{IsKept, Selects}

-- it gives this answer
abbrev pub LinksTo : PlatformRules → (Bytes → Bytes) → Options → Scripts → List Batch → Linked → Type 0
LinksTo platform demangle options texts batches answer = IsSomeAnd (world_of_batches platform demangle options texts batches) (λ w. IsLinked w answer)

-- a link of the world keeps these parts, those of the selection with which its batches end, and what root names are mapped to there
abbrev pub HasParts : {P : Type 0} → World → Parts P → Type 0
HasParts w x = (l : Selection) × Selects w l × IsKept l x.db x.known x.groups × (x.roots ≡ root_symbols l.stage)

-- it keeps these parts
abbrev pub KeepsParts : {P : Type 0} → PlatformRules → (Bytes → Bytes) → Options → Scripts → List Batch → Parts P → Type 0
KeepsParts platform demangle options texts batches x = IsSomeAnd (world_of_batches platform demangle options texts batches) (λ w. HasParts w x)

-- it is refused for this cause
abbrev pub IsRefusedFor : PlatformRules → (Bytes → Bytes) → Options → Scripts → List Batch → LinkError → Type 0
IsRefusedFor platform demangle options texts batches cause = IsSomeAnd (world_of_batches platform demangle options texts batches) (λ w. IsRefused w cause)

-- this is its explanation
abbrev pub IsExplainedBy : PlatformRules → (Bytes → Bytes) → Options → Scripts → List Batch → Explanation → Type 0
IsExplainedBy platform demangle options texts batches explanation = IsSomeAnd (world_of_batches platform demangle options texts batches) (λ w. IsExplanation w explanation)
