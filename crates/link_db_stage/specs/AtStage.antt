-- A database at a stage of a link.
use Rattle.std.specs.Prelude.{◌≡◌, List, [], ◌∷◌, None}
use Rattle.std.specs.List.{flat_map}
use Rattle.link_input.specs.declared.options.Options.{Options}
use Rattle.link_input.specs.declared.world.Scripts.{Scripts}
use Rattle.link_input.specs.InputFiles.{Batch, input_files}
use Rattle.link_input.specs.Symbols.{symbols_of}
use Rattle.link_input_groups.specs.Held.{AreGroupsOf}
use Rattle.link_rules.specs.Names.{first_definition}
use Rattle.link_rules.specs.Places.{Bytes}
use Rattle.link_rules.specs.Rules.{PlatformRules, rules_of}
use Rattle.link_rules.specs.World.{Stage}
use Rattle.link_db_texts.specs.Holds.{AreRulesOf, HoldsTexts}
use Rattle.link_db_files.specs.GroupFiles.{symbols_in}
use Rattle.link_db_files.specs.Inputs.{objects_in, scripts_in}
use Rattle.link_db_mapping.specs.Mapped.{AreListed, mapping_of}
use Rattle.link_db.specs.Database.{Database}

-- a database says what is so at this stage: it holds the stage's files and their symbols, with no symbol of the linker's own; its options and rules
-- are the stage's; it lists the definitions of each name, and maps each name to what it is mapped to there, wraps and all
pub record IsAtStage {P : Type 0} (platform : PlatformRules) (demangle : Bytes → Bytes) (db : Database P) (w : Stage) : Type 0 where
  pub objects : w.objects ≡ objects_in db.mapping.files.groups
  pub scripts : w.scripts ≡ scripts_in db.mapping.files.groups
  pub symbols : w.symbols ≡ symbols_in db.mapping.files.groups
  pub added : db.mapping.files.added ≡ []
  pub options : w.options ≡ db.options
  pub rules : AreRulesOf platform demangle db.rules w.rules
  pub lists : AreListed w.symbols db.mapping
  pub names : (name : Bytes) → mapping_of db.mapping name ≡ first_definition w name

-- the files of these batches were added, of whose linker scripts those of the first batch count, and no name is overridden yet
pub record HoldsBatches {P : Type 0} (platform : PlatformRules) (given : Scripts) (first : Batch) (later : List Batch) (db : Database P) : Type 0 where
  pub groups : AreGroupsOf db.options (first ∷ later) db.mapping.files.groups
  pub lists : AreListed (symbols_in db.mapping.files.groups) db.mapping
  pub overridden : db.mapping.overridden ≡ (λ name. None)
  pub added : db.mapping.files.added ≡ []
  pub texts : HoldsTexts platform db.options given first.scripts db.rules

-- a stage of a link by these rules, with the files of these batches
pub record HasBatches (platform : PlatformRules) (demangle : Bytes → Bytes) (given : Options) (texts : Scripts) (first : Batch) (later : List Batch) (w : Stage) : Type 0 where
  pub objects : w.objects ≡ flat_map (λ b. b.objects) (first ∷ later)
  pub scripts : w.scripts ≡ flat_map (λ b. b.scripts) (first ∷ later)
  pub symbols : w.symbols ≡ symbols_of 0 (input_files given (first ∷ later))
  pub options : w.options ≡ given
  pub rules : w.rules ≡ rules_of platform demangle given texts first.scripts
