-- Of which selections a database tells, and what its columns tell of them.
use Rattle.std.proofs.Common.{◌≡◌, ◌∙◌, ℕ, List, [], ◌∷◌, Bool, Option, None, ap, map, refl, sym, take}
use Rattle.std.specs.Option.{option_or}
use Rattle.link_input.specs.declared.options.Options.{Options}
use Rattle.link_input.specs.Symbols.{Symbol, is_shared}
use Rattle.link_resolve_rivals.specs.Survivors.{Tells}
use Rattle.link_resolve_rivals.specs.declared.survivors.Survivors.{Survivors}
use Rattle.link_rules.specs.Places.{Bytes, first_of}
use Rattle.link_rules.specs.Rivals.{is_in_loaded_regular}
use Rattle.link_rules.specs.Rules.{PlatformRules, Rules}
use Rattle.link_rules.specs.Selection.{Selection}
use Rattle.link_db_files.specs.GroupFiles.{symbols_in}
use Rattle.link_db_files.specs.Inputs.{objects_in}
use Rattle.link_db_mapping.specs.Keys.{versioned_key}
use Rattle.link_db_mapping.specs.Mapped.{Mapped, mapped_key, mapping_of, override_of}
use Rattle.link_db_buckets.specs.Keys.{Key}
use Rattle.link_db.specs.Database.{Database}
use Rattle.link_resolve.specs.Known.{IsSelection, Known}
use Rattle.link_resolve_explanation.specs.Told.{AreRivalsSettled, IsTold}

-- such columns tell of the selection
pub told-columns : {P : Type 0} {weak : Bool} {survivors : Survivors} (db : Database P) (known : Known) (l : Selection) → IsTold weak db known l
    → survivors.strengths.now ≡ known.strengths → survivors.dynamic.now ≡ map (λ x. is_shared x.origin) (symbols_in db.mapping.files.groups)
    → survivors.held.now ≡ map (λ x. is_in_loaded_regular known.marks x.origin) (symbols_in db.mapping.files.groups)
    → survivors.weak_overrides_common ≡ weak → survivors.allow_multiple ≡ db.options.allow_multiple → Tells survivors l
told-columns db known l is strengths dynamic held weak multiple = record {
  strengths = strengths ∙ sym is.strengths;
  dynamic = dynamic ∙ ap (λ (xs : List Symbol). map (λ x. is_shared x.origin) xs) (sym is.symbols);
  held = held ∙ ap (λ (xs : List Symbol). map (λ x. is_in_loaded_regular known.marks x.origin) xs) (sym is.symbols)
      ∙ ap (λ (marks : List Bool). map (λ (x : Symbol). is_in_loaded_regular marks x.origin) l.stage.symbols) (sym is.marks);
  weak_overrides_common = weak ∙ sym is.weak;
  allow_multiple = multiple ∙ sym (ap (λ (o : Options). o.allow_multiple) is.options);
}

-- a database that lists the definitions of names tells of the selection at its stage
pub selection-told : {P : Type 0} (platform : PlatformRules) (demangle : Bytes → Bytes) (db : Database P) (known : Known) (l : Selection)
    → IsSelection platform demangle db known l → IsTold platform.weak_overrides_common db known l
selection-told platform demangle db known l is = record {
  objects = is.stage.objects;
  symbols = is.stage.symbols;
  options = is.stage.options;
  weak = ap (λ (r : Rules). r.weak_overrides_common) is.stage.rules.same;
  names = is.stage.names;
  versions = λ name version. ap (λ (xs : List ℕ). first_of xs) (is.stage.lists.versioned name version);
  marks = is.marks;
  targets = is.targets;
  strengths = is.strengths;
}

-- the first of a list is the first where only that is left
first-left : (xs : List ℕ) → first_of (take 1 xs) ≡ first_of xs
first-left [] = refl
first-left (x ∷ xs) = refl

-- what a key is mapped to stays
key-left : {P : Type 0} (m : Mapped P) (key : Key) → mapped_key (record m { lists = λ key. take 1 (m.lists key) }) key ≡ mapped_key m key
key-left m key = ap (λ (first : Option ℕ). option_or (override_of m key.name key.version) first) (first-left (m.lists key))

-- once rivals are settled the database still tells
pub settled-told : {P : Type 0} (weak : Bool) (old new : Database P) (known : Known) (l : Selection) → IsTold weak old known l → AreRivalsSettled old new → IsTold weak new known l
settled-told {P} weak old new known l is settled =
    let mapping : new.mapping ≡ record old.mapping { lists = λ key. take 1 (old.mapping.lists key) } = ap (λ (d : Database P). d.mapping) settled in
    record {
      objects = is.objects ∙ sym (ap (λ (m : Mapped P). objects_in m.files.groups) mapping);
      symbols = is.symbols ∙ sym (ap (λ (m : Mapped P). symbols_in m.files.groups) mapping);
      options = is.options ∙ sym (ap (λ (d : Database P). d.options) settled);
      weak = is.weak;
      names = λ name. ap (λ (m : Mapped P). mapping_of m name) mapping ∙ key-left old.mapping (record { name = name; version = None }) ∙ is.names name;
      versions = λ name version. ap (λ (m : Mapped P). mapped_key m (versioned_key name version)) mapping ∙ key-left old.mapping (versioned_key name version) ∙ is.versions name version;
      marks = is.marks;
      targets = is.targets;
      strengths = is.strengths;
    }
