-- What names are mapped to, by the files alone.
use Rattle.std.proofs.Common.{◌≡◌, ◌∙◌, ℕ, List, [], ◌∷◌, Option, None, sym, ap, subst}
use Rattle.std.specs.Prelude.{fold}
use Rattle.std.specs.Option.{option_or}
use Rattle.link_db_buckets.specs.Keys.{Key}
use Rattle.link_input.specs.declared.options.Options.{Options}
use Rattle.link_input.specs.declared.world.Scripts.{Scripts}
use Rattle.link_input.specs.InputFiles.{Batch}
use Rattle.link_input.specs.Symbols.{Symbol}
use Rattle.link_input_groups.specs.declared.group.Group.{Group}
use Rattle.link_input_groups.specs.Held.{AreGroupsOf}
use Rattle.link_rules.specs.Names.{Mapping, wrapped, unwrapped, definitions_of, versioned_definitions_of}
use Rattle.link_rules.specs.Places.{Bytes, first_of}
use Rattle.link_rules.specs.Rules.{PlatformRules}
use Rattle.link_rules.specs.World.{Stage}
use Rattle.link_db_texts.specs.Holds.{HoldsTexts}
use Rattle.link_db_texts.specs.ReadTexts.{ReadTexts}
use Rattle.link_db_files.specs.GroupFiles.{symbols_in}
use Rattle.link_db_files.specs.Inputs.{objects_in, scripts_in}
use Rattle.link_db_files.proofs.Joining.{objects-of-batches, scripts-of-batches, symbols-of-batches, symbols-of-none}
use Rattle.link_db_mapping.specs.Keys.{plain_key, versioned_key}
use Rattle.link_db_mapping.specs.Mapped.{AreListed, Mapped, mapping_of}
use Rattle.link_db_mapping.proofs.Telling.{each_key}
use Rattle.link_db.specs.Database.{Database}
use Rattle.link_db.specs.Overrides.{IsMappedAnew}
use Rattle.link_db_stage.specs.AtStage.{HasBatches, HoldsBatches, IsAtStage}
use Rattle.link_db_stage.specs.SameNames.{AreOfBatches}

-- the symbols of groups are those of the batches' files, however these are cut
symbols-alike : {P : Type 0} (options : Options) (m n : ℕ) (batches : List Batch) (a b : List (Group P))
    → AreGroupsOf (record options { files_per_group = m }) batches a → AreGroupsOf (record options { files_per_group = n }) batches b → symbols_in a ≡ symbols_in b
symbols-alike options m n [] a b of_a of_b = symbols-of-none (record options { files_per_group = m }) a of_a ∙ sym (symbols-of-none (record options { files_per_group = n }) b of_b)
symbols-alike options m n (x ∷ xs) a b of_a of_b =
    symbols-of-batches (record options { files_per_group = m }) x xs a of_a ∙ sym (symbols-of-batches (record options { files_per_group = n }) x xs b of_b)

-- so are the definitions of each name
pub lists-alike : {P : Type 0} (options : Options) (m n : ℕ) (batches : List Batch) (a b : Mapped P) → AreOfBatches options m batches a → AreOfBatches options n batches b
    → (key : Key) → a.lists key ≡ b.lists key
lists-alike options m n batches a b of_a of_b =
    let same = symbols-alike options m n batches a.files.groups b.files.groups of_a.groups of_b.groups in
    each_key (λ key. a.lists key ≡ b.lists key)
    (λ name. of_a.lists.plain name ∙ (ap (λ (xs : List Symbol). definitions_of xs name) same ∙ sym (of_b.lists.plain name)))
    (λ name version. of_a.lists.versioned name version ∙ (ap (λ (xs : List Symbol). versioned_definitions_of xs name version) same ∙ sym (of_b.lists.versioned name version)))

-- and what each name is mapped to
pub mapping-alike : {P : Type 0} (options : Options) (m n : ℕ) (batches : List Batch) (a b : Mapped P) → AreOfBatches options m batches a → AreOfBatches options n batches b
    → a.overridden ≡ b.overridden → (name : Bytes) → mapping_of a name ≡ mapping_of b name
mapping-alike options m n batches a b of_a of_b same name =
    ap (λ (o : Option ℕ). option_or o (first_of (a.lists (plain_key name)))) (ap (λ (f : Mapping). f name) same)
    ∙ ap (λ (l : List ℕ). option_or (b.overridden name) (first_of l)) (lists-alike options m n batches a b of_a of_b (plain_key name))

-- where no name is overridden each is mapped to its first definition
pub unwrapped-at : {P : Type 0} (m : Mapped P) (symbols : List Symbol) → AreListed symbols m → m.overridden ≡ (λ name. None) → mapping_of m ≡ unwrapped symbols
unwrapped-at m symbols lists none = λ i. λ name. by name i
  where
    by : (name : Bytes) → mapping_of m name ≡ unwrapped symbols name
    by name = ap (λ (f : Mapping). option_or (f name) (first_of (m.lists (plain_key name)))) none ∙ ap (λ (l : List ℕ). first_of l) (lists.plain name)

-- once the files of batches are added and names are wrapped, all is as it is at their stage
pub comes-to : {P : Type 0} (platform : PlatformRules) (demangle : Bytes → Bytes) (texts : Scripts) (first : Batch) (later : List Batch) (old new : Database P) (w : Stage)
    → HoldsBatches platform texts first later old → IsMappedAnew old new
    → ((name : Bytes) → mapping_of new.mapping name ≡ fold wrapped (mapping_of old.mapping) old.options.wrap name)
    → HasBatches platform demangle old.options texts first later w → IsAtStage platform demangle new w
comes-to {P} platform demangle texts first later old new w holds anew names has =
    let groups : new.mapping.files.groups ≡ old.mapping.files.groups = ap (λ (d : Database P). d.mapping.files.groups) anew in
    let options : new.options ≡ old.options = ap (λ (d : Database P). d.options) anew in
    let rules : new.rules ≡ old.rules = ap (λ (d : Database P). d.rules) anew in
    let lists : new.mapping.lists ≡ old.mapping.lists = ap (λ (d : Database P). d.mapping.lists) anew in
    let symbols : w.symbols ≡ symbols_in old.mapping.files.groups = has.symbols ∙ sym (symbols-of-batches old.options first later old.mapping.files.groups holds.groups) in
    let listed : AreListed w.symbols old.mapping = subst (λ (xs : List Symbol). AreListed xs old.mapping) (sym symbols) holds.lists in
    record {
      objects = has.objects ∙ (sym (objects-of-batches old.options (first ∷ later) old.mapping.files.groups holds.groups) ∙ ap (λ (gs : List (Group P)). objects_in gs) (sym groups));
      scripts = has.scripts ∙ (sym (scripts-of-batches old.options (first ∷ later) old.mapping.files.groups holds.groups) ∙ ap (λ (gs : List (Group P)). scripts_in gs) (sym groups));
      symbols = symbols ∙ ap (λ (gs : List (Group P)). symbols_in gs) (sym groups);
      added = ap (λ (d : Database P). d.mapping.files.added) anew ∙ holds.added;
      options = has.options ∙ sym options;
      rules = record {
        options = old.options;
        texts = texts;
        scripts = first.scripts;
        holds = subst (λ (r : ReadTexts). HoldsTexts platform old.options texts first.scripts r) (sym rules) holds.texts;
        same = has.rules;
      };
      lists = record {
        plain = λ name. ap (λ (f : Key → List ℕ). f (plain_key name)) lists ∙ listed.plain name;
        versioned = λ name version. ap (λ (f : Key → List ℕ). f (versioned_key name version)) lists ∙ listed.versioned name version;
      };
      names = λ name. names name
          ∙ (ap (λ (f : Mapping). fold wrapped f old.options.wrap name) (unwrapped-at old.mapping w.symbols listed holds.overridden)
          ∙ ap (λ (o : Options). fold wrapped (unwrapped w.symbols) o.wrap name) (sym has.options));
    }
