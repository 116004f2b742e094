-- Links stay at their stage, or come to another one.
use Rattle.std.specs.Prelude.{OnOk, OnErr, Option, Some, None}
use Rattle.std.proofs.Common.{Result, Ok, Err, ◌≡◌, ◌≤◌, ◌+◌, ◌++◌, ◌∙◌, ℕ, suc, List, [], ◌∷◌, length, refl, sym, ap, subst, arith}
use Rattle.std.proofs.lemmas.List.{length-append, length-map}
use Rattle.link_flags.specs.declared.value_flags.RawFlags.{RawFlags}
use Rattle.link_input_groups.specs.declared.group.Group.{Group}
use Rattle.link_input_groups.specs.Held.{AreGroupsOf}
use Rattle.link_input.specs.declared.options.Options.{Options}
use Rattle.link_input.specs.declared.world.ProcessedLinkerScript.{ProcessedLinkerScript}
use Rattle.link_input.specs.declared.world.Scripts.{Scripts}
use Rattle.link_input.specs.InputFiles.{Batch}
use Rattle.link_db_files.specs.Adding.{EndsInSynthetic, synthetic_group}
use Rattle.link_db_files.proofs.Changing.{ends-kept}
use Rattle.link_db_texts.specs.Holds.{AreRulesOf, HoldsTexts}
use Rattle.link_db_texts.specs.ReadTexts.{ReadTexts}
use Rattle.link_db_mapping.specs.Changes.{with_group}
use Rattle.link_db_mapping.proofs.Synthetics.{ends_in_group}
use Rattle.link_rules.specs.Places.{Bytes, each_from}
use Rattle.link_rules.specs.Rules.{PlatformRules, Rules, rules_of}
use Rattle.link_rules.specs.Visibility.{rust_flags}
use Rattle.link_db.specs.Adding.{IsGrown}
use Rattle.link_db.specs.Database.{Database, no_names}
use Rattle.link_flags.specs.FlagWords.{numbers_of}
use Rattle.link_db.specs.RustScript.{flags_by_script, freed_symbols}
use Rattle.link_db.specs.Synthetic.{with_linker_symbol}
use Rattle.link_tests_db.specs.declared.stage.Stage.{Stage}
use Rattle.link_tests_db.specs.declared.stage.Stage.TheVariants.{Batches, Groups, Symbols}
use Rattle.link_tests_db.specs.Held.{AreGroupsAt, IsAt}

-- where options and rules are as before, so are the texts
same-texts : {P : Type 0} (platform : PlatformRules) (stage : Stage) (old new : Database P) → new.options ≡ old.options → new.rules ≡ old.rules → IsAt platform stage old
    → (texts : Scripts) × ((scripts : List ProcessedLinkerScript) × HoldsTexts platform new.options texts scripts new.rules)
same-texts platform stage old new options rules held =
    let texts = held.texts.0 in
    let scripts = held.texts.1.0 in
    (texts, (scripts, subst (λ (o : Options). HoldsTexts platform o texts scripts new.rules) (sym options) (subst (λ (r : ReadTexts). HoldsTexts platform old.options texts scripts r) (sym rules) held.texts.1.1)))

-- where options, rules and groups are as before
pub kept : {P : Type 0} (platform : PlatformRules) (stage : Stage) (old new : Database P) → new.options ≡ old.options → new.rules ≡ old.rules → new.mapping.files.groups ≡ old.mapping.files.groups → IsAt platform stage old → IsAt platform stage new
kept {P} platform stage old new options rules groups held = record {
  groups = subst (λ (o : Options). AreGroupsAt stage o new.mapping.files.groups) (sym options) (subst (λ (gs : List (Group P)). AreGroupsAt stage old.options gs) (sym groups) held.groups);
  texts = same-texts platform stage old new options rules held;
}

-- without files
pub started : {P : Type 0} (platform : PlatformRules) (db : Database P) (options : Options) (texts : Scripts) (workers : ℕ)
    → db ≡ record { options = options; rules = db.rules; workers = workers; mapping = no_names; table = [] } → HoldsTexts platform options texts [] db.rules → IsAt platform (Batches 0) db
started {P} platform db options texts workers empty holds =
    kept platform (Batches 0) (record { options = options; rules = db.rules; workers = workers; mapping = no_names; table = [] }) db
    (ap (λ (d : Database P). d.options) empty) refl (ap (λ (d : Database P). d.mapping.files.groups) empty)
    (record { groups = ([], (refl, omega arith)); texts = (texts, ([], holds)) })

-- with a batch, where it was not refused
pub with_batch : {P A E : Type 0} (platform : PlatformRules) (count : ℕ) (old new : Database P) (b : Batch) (more : List ProcessedLinkerScript) (r : Result A E)
    → OnOk r ((batches : List Batch) → AreGroupsOf old.options batches old.mapping.files.groups → AreGroupsOf old.options (batches ++ b ∷ []) new.mapping.files.groups)
    → OnOk r (IsGrown old new)
    → OnOk r ((options : Options) (texts : Scripts) (scripts : List ProcessedLinkerScript) → HoldsTexts platform options texts scripts old.rules → HoldsTexts platform options texts (scripts ++ more) new.rules)
    → OnErr r (new ≡ old) → IsAt platform (Batches count) old → IsAt platform (Batches (count + 1)) new
with_batch {P} platform count old new b more (Ok x) files grown texts same held =
    let batches = held.groups.0 in
    let fit : length batches ≤ count = held.groups.1.1 in
    let all : AreGroupsOf old.options (batches ++ b ∷ []) new.mapping.files.groups = files batches held.groups.1.0 in
    let read = texts old.options held.texts.0 held.texts.1.0 held.texts.1.1 in
    record {
      groups = (batches ++ b ∷ [], (subst (λ (o : Options). AreGroupsOf o (batches ++ b ∷ []) new.mapping.files.groups) (sym grown.options) all, omega (arith, fit, length-append batches (b ∷ []))));
      texts = (held.texts.0, (held.texts.1.0 ++ more, subst (λ (o : Options). HoldsTexts platform o held.texts.0 (held.texts.1.0 ++ more) new.rules) (sym grown.options) read));
    }
with_batch {P} platform count old new b more (Err e) files grown texts same held =
    let fit : length held.groups.0 ≤ count = held.groups.1.1 in
    let more_room : IsAt platform (Batches (count + 1)) old = record { groups = (held.groups.0, (held.groups.1.0, omega (arith, fit))); texts = held.texts } in
    subst (λ (d : Database P). IsAt platform (Batches (count + 1)) d) (sym same) more_room

-- before a group that the linker adds
pub closed : {P : Type 0} (platform : PlatformRules) (stage : Stage) (old new : Database P) → new ≡ old → IsAt platform stage old → IsAt platform Groups new
closed {P} platform stage old new same held =
    record { groups = tt; texts = same-texts platform stage old new (ap (λ (d : Database P). d.options) same) (ap (λ (d : Database P). d.rules) same) held }

-- with such a group, where memory lasted
pub with_files : {P A E : Type 0} (platform : PlatformRules) (stage : Stage) (old new : Database P) (g : Group P) (r : Result A E)
    → OnOk r (new ≡ record old { mapping = with_group g old.mapping }) → OnErr r (new ≡ old) → IsAt platform stage old → IsAt platform Groups new
with_files {P} platform stage old new g (Ok x) came same held =
    record { groups = tt; texts = same-texts platform stage old new (ap (λ (d : Database P). d.options) came) (ap (λ (d : Database P). d.rules) came) held }
with_files platform stage old new g (Err e) came same held = closed platform stage old new same held

-- with the group of the symbols that the linker adds
pub with_symbols : {P : Type 0} (platform : PlatformRules) (stage : Stage) (old new : Database P) → new ≡ record old { mapping = with_group (synthetic_group old.mapping.files) old.mapping } → IsAt platform stage old → IsAt platform Symbols new
with_symbols {P} platform stage old new came held = record {
  groups = subst (λ (d : Database P). EndsInSynthetic d.mapping.files.groups) (sym came) (ends_in_group old.mapping.files);
  texts = same-texts platform stage old new (ap (λ (d : Database P). d.options) came) (ap (λ (d : Database P). d.rules) came) held;
}

-- with such a symbol, where memory lasted
pub with_symbol : {P A E : Type 0} (platform : PlatformRules) (old new : Database P) (name : List ℕ) (r : Result A E) → OnOk r (new ≡ with_linker_symbol name old) → OnErr r (new ≡ old) → IsAt platform Symbols old → IsAt platform Symbols new
with_symbol {P} platform old new name (Ok x) came same held = record {
  groups = subst (λ (d : Database P). EndsInSynthetic d.mapping.files.groups) (sym came) (ends-kept old.mapping.files name held.groups);
  texts = same-texts platform Symbols old new (ap (λ (d : Database P). d.options) came) (ap (λ (d : Database P). d.rules) came) held;
}
with_symbol {P} platform old new name (Err e) came same held = subst (λ (d : Database P). IsAt platform Symbols d) (sym same) held
