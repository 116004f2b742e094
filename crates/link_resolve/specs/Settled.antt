-- What is told of a selection once its rivals are settled, and what is left when the linker has made its symbols.
use Rattle.std.specs.Prelude.{◌≡◌, List, fold, length, map}
use Rattle.std.specs.Option.{option_or}
use Rattle.std.specs.Str.{bytes_eq}
use Rattle.link_db_files.specs.Adding.{synthetic_group}
use Rattle.link_db_files.specs.GroupFiles.{symbols_in}
use Rattle.link_db_files.specs.HeldFiles.{names_in}
use Rattle.link_db_files.specs.Inputs.{objects_in}
use Rattle.link_db_texts.specs.Holds.{AreRulesOf}
use Rattle.link_db_mapping.specs.Changes.{with_group}
use Rattle.link_db_mapping.specs.Mapped.{Mapped, mapping_of}
use Rattle.link_rules.specs.Names.{Mapping, first_definition}
use Rattle.link_rules.specs.Places.{Bytes, first_of, places_from}
use Rattle.link_rules.specs.Rules.{PlatformRules}
use Rattle.link_rules.specs.Selection.{Selection}
use Rattle.link_rules.specs.Undefined.{boundary_makers, final_table, left_undefined}
use Rattle.link_db.specs.Database.{Database}
use Rattle.link_db.specs.Synthetic.{with_listed_symbol}
use Rattle.link_resolve.specs.Known.{Known}

-- a database and what is known tell of the selection: its objects with their symbols, its options, what names are mapped to, which objects are
-- loaded, and what their references stand for
pub record IsSettled {P : Type 0} (db : Database P) (known : Known) (l : Selection) : Type 0 where
  pub objects : l.stage.objects ≡ objects_in db.mapping.files.groups
  pub symbols : l.stage.symbols ≡ symbols_in db.mapping.files.groups
  pub options : l.stage.options ≡ db.options
  pub names : (name : Bytes) → mapping_of db.mapping name ≡ first_definition l.stage name
  pub marks : l.marks ≡ known.marks
  pub targets : l.targets ≡ known.targets

-- with a symbol of each of these names more, one after another, in the last group, that of the symbols that the linker makes
abbrev pub with_linker_symbols : {P : Type 0} → List Bytes → Mapped P → Mapped P
with_linker_symbols names m = fold (λ held name. with_listed_symbol name (length (names_in held.files)) held) m names

-- with the group of the linker's symbols behind the others, and in it symbols of these names
abbrev pub with_linker_group : {P : Type 0} → List Bytes → Mapped P → Mapped P
with_linker_group names m = with_linker_symbols names (with_group (synthetic_group m.files) m)

-- the names of the symbols that the linker makes, in the order of their ids
abbrev pub boundary_names : Selection → List Bytes
boundary_names l = map (λ m. m.1.name) (boundary_makers l.stage (left_undefined l))

-- what a name is mapped to at the end: what it was mapped to, else the first of the symbols of that name that the linker makes
abbrev pub meaning_at_end : Selection → Mapping
meaning_at_end l = λ name. option_or (first_definition l.stage name) (first_of (places_from (λ made. bytes_eq made name) (length l.stage.symbols) (boundary_names l)))

-- a database at its end and what is known tell of the selection: its symbols, its options, what its texts say of names, which objects are loaded, and
-- what each symbol points to
pub record IsEnded {P : Type 0} (platform : PlatformRules) (demangle : Bytes → Bytes) (db : Database P) (known : Known) (l : Selection) : Type 0 where
  pub symbols : l.stage.symbols ≡ symbols_in db.mapping.files.groups
  pub options : l.stage.options ≡ db.options
  pub rules : AreRulesOf platform demangle db.rules l.stage.rules
  pub marks : l.marks ≡ known.marks
  pub table : db.table ≡ final_table l
