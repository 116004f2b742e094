-- What is known of a link once it is known which objects are loaded.
use Rattle.std.specs.Prelude.{◌≡◌, ℕ, List, [], Bool, Option}
use Rattle.link_flags.specs.declared.strength.SymbolStrength.{SymbolStrength}
use Rattle.link_db_files.specs.GroupFiles.{symbols_in}
use Rattle.link_rules.specs.Places.{Bytes}
use Rattle.link_rules.specs.Rules.{PlatformRules}
use Rattle.link_rules.specs.Selection.{Selection}
use Rattle.link_db_mapping.specs.Mapped.{AreListed}
use Rattle.link_db.specs.Database.{Database}
use Rattle.link_db_stage.specs.AtStage.{IsAtStage}

-- a mark for each loaded object, what the references of these stand for, and how strongly each symbol binds now
pub record Known : Type 0 where
  pub marks : List Bool
  pub targets : List (Option ℕ)
  pub strengths : List SymbolStrength

-- a selection at a stage of the database, of which it is known what is loaded, and what references stand for
pub record IsLoadedSelection {P : Type 0} (platform : PlatformRules) (demangle : Bytes → Bytes) (db : Database P) (known : Known) (l : Selection) : Type 0 where
  pub stage : IsAtStage platform demangle db l.stage
  pub marks : l.marks ≡ known.marks
  pub targets : l.targets ≡ known.targets

-- a selection at a stage of the database, of which this is known
pub record IsSelection {P : Type 0} (platform : PlatformRules) (demangle : Bytes → Bytes) (db : Database P) (known : Known) (l : Selection) : Type 0 where
  pub stage : IsAtStage platform demangle db l.stage
  pub marks : l.marks ≡ known.marks
  pub targets : l.targets ≡ known.targets
  pub strengths : l.strengths ≡ known.strengths

-- the database lists the definitions of each name, and has no symbol of the linker's own yet
pub record IsListed {P : Type 0} (db : Database P) : Type 0 where
  pub lists : AreListed (symbols_in db.mapping.files.groups) db.mapping
  pub added : db.mapping.files.added ≡ []
