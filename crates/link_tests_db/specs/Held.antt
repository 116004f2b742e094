-- What is known of a link between the calls that change it.
use Rattle.std.specs.Prelude.{◌≡◌, ◌≤◌, List, length}
use Rattle.link_flags.specs.declared.value_flags.RawFlags.{RawFlags}
use Rattle.link_input_groups.specs.declared.group.Group.{Group}
use Rattle.link_input_groups.specs.Held.{AreGroupsOf}
use Rattle.link_input.specs.declared.options.Options.{Options}
use Rattle.link_input.specs.declared.world.ProcessedLinkerScript.{ProcessedLinkerScript}
use Rattle.link_input.specs.declared.world.Scripts.{Scripts}
use Rattle.link_input.specs.InputFiles.{Batch}
use Rattle.link_db_files.specs.Adding.{EndsInSynthetic}
use Rattle.link_db_texts.specs.Holds.{HoldsTexts}
use Rattle.link_rules.specs.Rules.{PlatformRules}
use Rattle.link_db.specs.Database.{Database, HasTable, symbol_names}
use Rattle.link_tests_db.specs.declared.stage.Stage.{Stage}
use Rattle.link_tests_db.specs.declared.stage.Stage.TheVariants.{Batches, Symbols, Groups}

-- table and flags have an entry for each symbol
pub record IsWhole {P : Type 0} (db : Database P) (words : List RawFlags) : Type 0 where
  pub table : HasTable db
  pub flags : length words ≡ length (symbol_names db)

-- the groups are those of so many batches at most, or the last is of symbols that the linker adds
abbrev pub AreGroupsAt : {P : Type 0} → Stage → Options → List (Group P) → Type 0
AreGroupsAt (Batches count) options groups = (batches : List Batch) × (AreGroupsOf options batches groups × (length batches ≤ count))
AreGroupsAt Symbols options groups = EndsInSynthetic groups
AreGroupsAt Groups options groups = Unit {0}

-- the groups are those of the stage, and the rules are those of some texts
pub record IsAt {P : Type 0} (platform : PlatformRules) (stage : Stage) (db : Database P) : Type 0 where
  pub groups : AreGroupsAt stage db.options db.mapping.files.groups
  pub texts : (texts : Scripts) × ((scripts : List ProcessedLinkerScript) × HoldsTexts platform db.options texts scripts db.rules)
