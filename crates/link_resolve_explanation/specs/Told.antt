-- A selection of which a database tells, also where the later definitions of names are given up.
use Rattle.std.specs.Prelude.{◌≡◌, Bool, take}
use Rattle.link_db_files.specs.GroupFiles.{symbols_in}
use Rattle.link_db_files.specs.Inputs.{objects_in}
use Rattle.link_db_mapping.specs.Keys.{versioned_key}
use Rattle.link_db_mapping.specs.Mapped.{mapped_key, mapping_of}
use Rattle.link_rules.specs.Names.{first_definition, first_versioned_definition}
use Rattle.link_rules.specs.Places.{Bytes}
use Rattle.link_rules.specs.Selection.{Selection}
use Rattle.link_db.specs.Database.{Database}
use Rattle.link_resolve.specs.Known.{Known}

-- a database and what is known tell of the selection: its objects with their symbols, its options, whether weak definitions come before tentative
-- ones, what names are mapped to, which objects are loaded, what their references stand for, and how strongly each symbol binds
pub record IsTold {P : Type 0} (weak_overrides_common : Bool) (db : Database P) (known : Known) (l : Selection) : Type 0 where
  pub objects : l.stage.objects ≡ objects_in db.mapping.files.groups
  pub symbols : l.stage.symbols ≡ symbols_in db.mapping.files.groups
  pub options : l.stage.options ≡ db.options
  pub weak : l.stage.rules.weak_overrides_common ≡ weak_overrides_common
  pub names : (name : Bytes) → mapping_of db.mapping name ≡ first_definition l.stage name
  pub versions : (name version : Bytes) → mapped_key db.mapping (versioned_key name version) ≡ first_versioned_definition l.stage.symbols name version
  pub marks : l.marks ≡ known.marks
  pub targets : l.targets ≡ known.targets
  pub strengths : l.strengths ≡ known.strengths

-- rivals were settled in between: what symbols point to may be another table, and of the definitions of each name the first is left
abbrev pub AreRivalsSettled : {P : Type 0} → Database P → Database P → Type 0
AreRivalsSettled old new = new ≡ record old { table = new.table; mapping = record old.mapping { lists = λ key. take 1 (old.mapping.lists key) } }
