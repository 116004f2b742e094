-- A batch of a link is resolved: which of its objects are loaded, and what follows for each symbol.
use Rattle.std.specs.Prelude.{◌≡◌, ◌∷◌, [], List, Bool, Option}
use Rattle.link_flags.specs.declared.strength.SymbolStrength.{SymbolStrength}
use Rattle.link_rules.specs.Orderly.{IsOrderly}
use Rattle.link_rules.specs.Places.{Bytes}
use Rattle.link_rules.specs.Refusals.{empty_refusal, first_cause, group_refusal}
use Rattle.link_rules.specs.Rules.{PlatformRules}
use Rattle.link_rules.specs.Selection.{Selection, selection_of}
use Rattle.link_rules.specs.World.{Stage}
use Rattle.link_rules.specs.declared.refusal.LinkError.{LinkError}
use Rattle.link_resolve_discarded.specs.Indexed.{IndexedGroups}
use Rattle.link_db.specs.Database.{Database}
use Rattle.link_resolve.specs.Known.{Known}
use Rattle.link_db_stage.specs.AtStage.{IsAtStage}

-- what a resolver knows: of the symbols, and the groups of the loaded regular objects
pub record Resolving : Type 0 where
  pub known : Known
  pub groups : IndexedGroups

-- nothing is loaded
abbrev pub nothing_known : Known
nothing_known = record { marks = []; targets = []; strengths = [] }

-- a stage of the database, before whose last batch this was known; it is orderly, as each stage is that a link comes to
pub record IsNextStage {P : Type 0} (platform : PlatformRules) (demangle : Bytes → Bytes) (db : Database P) (known : Known) (w : Stage) : Type 0 where
  pub stage : IsAtStage platform demangle db w
  pub orderly : IsOrderly w
  pub loaded : w.earlier.loaded ≡ known.marks
  pub targets : w.earlier.targets ≡ known.targets

-- what is known of a selection
abbrev pub known_of : Selection → Known
known_of l = record { marks = l.marks; targets = l.targets; strengths = l.strengths }

-- the same resolver, which has these groups, and knows that symbols bind so strongly
abbrev pub with_groups : IndexedGroups → List SymbolStrength → Resolving → Resolving
with_groups groups strengths r = record r { known = record r.known { strengths = strengths }; groups = groups }

-- the first cause that a batch brings once it is read, where these objects are loaded: no object, or a section in two groups
abbrev pub loading_cause : Stage → List Bool → Option LinkError
loading_cause w marks = first_cause (empty_refusal w ∷ group_refusal (selection_of w marks) ∷ [])
