-- A database with the files of one batch more is at the next stage of its link.
use Rattle.std.proofs.Common.{◌≡◌, ◌∙◌, ◌+◌, ◌-◌, ◌<◌, ◌≤◌, ◌++◌, IsTrue, ℕ, suc, List, [], ◌∷◌, Bool, not, Option, None, refl, sym, ap, subst, arith, drop, length, length-append, map}
use Rattle.std.specs.Prelude.{fold, is_some, slice_get, unwrap_or}
use Rattle.std.specs.List.{flat_map, range_with_len}
use Rattle.std.proofs.lemmas.List.{length-map}
use Rattle.std.proofs.lemmas.Grind.{flat_map-append}
use Rattle.link_input.specs.declared.options.Options.{Options}
use Rattle.link_input.specs.declared.world.ProcessedLinkerScript.{ProcessedLinkerScript}
use Rattle.link_input.specs.declared.world.Scripts.{Scripts}
use Rattle.link_input.specs.InputFiles.{Batch, input_files}
use Rattle.link_input.specs.Limits.{Counts, counts_of, first_excess}
use Rattle.link_input.specs.ObjectFile.{ObjectFile}
use Rattle.link_input.specs.Symbols.{Symbol, symbols_of}
use Rattle.link_input_groups.specs.declared.group.Group.{Group}
use Rattle.link_input_groups.specs.Held.{AreGroupsOf}
use Rattle.link_db_files.proofs.Joining.{objects-of-batches, symbols-of-batches}
use Rattle.link_db_files.specs.GroupFiles.{symbols_in}
use Rattle.link_db_files.specs.Inputs.{objects_in}
use Rattle.link_flags.specs.declared.value_flags.RawFlags.{RawFlags}
use Rattle.link_flags.specs.FlagWords.{numbers_of}
use Rattle.link_rules.specs.declared.refusal.LinkError.{LinkError}
use Rattle.link_rules.proofs.Files.{counts-same, grows}
use Rattle.link_rules.specs.Marking.{flags_before}
use Rattle.link_rules.specs.Names.{wrapped}
use Rattle.link_rules.specs.Opening.{opening_flags}
use Rattle.link_rules.specs.Places.{Bytes, each_from, is_empty}
use Rattle.link_rules.specs.Refusals.{counts_at, first_cause, linker_script_cause, too_many}
use Rattle.link_rules.specs.Rules.{PlatformRules, rules_of, taken_text}
use Rattle.link_rules.specs.World.{Stage, World, nothing_earlier, with_batch}
use Rattle.link_script_syntax.specs.declared.profile.ScriptProfile.{ScriptProfile}
use Rattle.link_db_texts.specs.Holds.{HoldsTexts}
use Rattle.link_db_texts.specs.ReadTexts.{ReadTexts}
use Rattle.link_db_mapping.specs.Mapped.{AreListed, mapping_of}
use Rattle.link_db.proofs.Causes.{late-batches}
use Rattle.link_db.specs.Adding.{HaveOpeningFlags, IsGrown, inputs_cause}
use Rattle.link_db.specs.Database.{Database, HasTable, symbol_names}
use Rattle.link_db.specs.Overrides.{IsMappedAnew}
use Rattle.link_resolve.proofs.Settling.{count-symbols}
use Rattle.link_resolve.specs.Known.{Known}
use Rattle.link_db_stage.proofs.Mappings.{comes-to}
use Rattle.link_db_stage.specs.AtStage.{HasBatches, IsAtStage}
use Rattle.link_core.specs.Steps.{HasFilesOf, HasRoom, IsBefore, IsReady, first_scripts, inputs_refusal}

-- with a batch more a stage has the files of one batch more
pub files-more : (options : Options) (done : List Batch) (b : Batch) (before : Stage) → HasFilesOf options done before → HasFilesOf options (done ++ b ∷ []) (with_batch before b)
files-more options done b before has =
    let more = grows options done before b
    (record { same_options = has.options_are; symbols = has.symbols; objects = has.objects; scripts = has.scripts; stubs = has.stubs }) in
    record { options_are = more.same_options; symbols = more.symbols; objects = more.objects; scripts = more.scripts; stubs = more.stubs }

-- what is counted at a stage of these files
counts-are : (options : Options) (batches : List Batch) (w : Stage) → HasFilesOf options batches w → counts_at w ≡ counts_of options batches
counts-are options batches w has =
    counts-same options batches w (record { same_options = has.options_are; symbols = has.symbols; objects = has.objects; scripts = has.scripts; stubs = has.stubs })

-- the files of all batches of a world
pub all-files : (platform : PlatformRules) (demangle : Bytes → Bytes) (w : World) (done : List Batch) (b : Batch) (before : Stage) → IsBefore platform demangle w done b before
    → HasFilesOf w.options (w.first ∷ w.later) (with_batch before b)
all-files platform demangle w done b before is =
    subst (λ (bs : List Batch). HasFilesOf w.options bs (with_batch before b)) (sym is.batches) (files-more w.options done b before is.files)

-- the causes of the inputs, by what was read of texts and by the counts of files
abbrev cause_by : ScriptProfile → Bool → Bool → ℕ → Counts → List ProcessedLinkerScript → Option LinkError
cause_by profile is_late is_taken n counts scripts = first_cause (linker_script_cause profile is_late is_taken n scripts ∷ too_many (first_excess counts) ∷ [])

-- the causes that the files of a batch bring to the database are those of the batch
pub inputs-same : {P : Type 0} (platform : PlatformRules) (demangle : Bytes → Bytes) (w : World) (done : List Batch) (b : Batch) (before : Stage) (db : Database P) (numbers : List ℕ) (known : Known)
    → IsBefore platform demangle w done b before → IsReady platform w done before db numbers known → inputs_cause db done b ≡ inputs_refusal (not (is_empty done)) before b
inputs-same {P} platform demangle w done b before db numbers known is ready =
    let is_late = not (is_empty done) in
    let scripts = length (flat_map (λ (x : Batch). x.scripts) done) in
    let taken : db.rules.is_taken ≡ is_some (taken_text before.texts before.scripts) =
    ready.holds.taken ∙ (sym is.taken ∙ ap (λ texts. is_some (taken_text texts before.scripts)) (sym is.texts_are)) in
    let profile : db.rules.profile ≡ before.options.script_profile =
    ready.holds.profile ∙ ap (λ (o : Options). o.script_profile) (sym is.files.options_are) in
    ap (λ (t : Bool). cause_by db.rules.profile is_late t scripts (counts_of db.options (done ++ b ∷ [])) b.scripts) taken
    ∙ (ap (λ (p : ScriptProfile). cause_by p is_late (is_some (taken_text before.texts before.scripts)) scripts (counts_of db.options (done ++ b ∷ [])) b.scripts) profile
    ∙ (ap (λ (o : Options). cause_by before.options.script_profile is_late (is_some (taken_text before.texts before.scripts)) scripts (counts_of o (done ++ b ∷ [])) b.scripts) ready.options
    ∙ (ap (λ (counts : Counts). cause_by before.options.script_profile is_late (is_some (taken_text before.texts before.scripts)) scripts counts b.scripts)
    (sym (counts-are w.options (done ++ b ∷ []) (with_batch before b) (files-more w.options done b before is.files)))
    ∙ ap (λ (ss : List ProcessedLinkerScript). cause_by before.options.script_profile is_late (is_some (taken_text before.texts before.scripts)) (length ss) (counts_at (with_batch before b)) b.scripts) (sym is.files.scripts))))

-- ---- the stage

-- with all its batches a world has the files of these
has-batches : (platform : PlatformRules) (demangle : Bytes → Bytes) (w : World) (done : List Batch) (b : Batch) (before : Stage) → IsBefore platform demangle w done b before
    → HasBatches platform demangle w.options w.texts w.first w.later (with_batch before b)
has-batches platform demangle w done b before is =
    let files = all-files platform demangle w done b before is in
    record { objects = files.objects; scripts = files.scripts; symbols = files.symbols; options = files.options_are; rules = is.rules_are ∙ is.rules }

-- a database is at the next stage once the files of the batch are added and names are wrapped
pub at-next-stage : {P : Type 0} (platform : PlatformRules) (demangle : Bytes → Bytes) (w : World) (done : List Batch) (b : Batch) (before : Stage) (first old new : Database P)
    (numbers : List ℕ) (known : Known) → IsBefore platform demangle w done b before → IsReady platform w done before first numbers known
    → AreGroupsOf old.options (w.first ∷ w.later) old.mapping.files.groups
    → AreListed (symbols_in old.mapping.files.groups) old.mapping → IsGrown first old → HoldsTexts platform w.options w.texts w.first.scripts old.rules
    → IsMappedAnew old new → ((name : Bytes) → mapping_of new.mapping name ≡ fold wrapped (mapping_of old.mapping) old.options.wrap name)
    → IsAtStage platform demangle new (with_batch before b)
at-next-stage {P} platform demangle w done b before first old new numbers known is ready groups lists grown texts anew wraps =
    let options : old.options ≡ w.options = grown.options ∙ ready.options in
    comes-to platform demangle w.texts w.first w.later old new (with_batch before b)
    (record {
      groups = groups;
      lists = lists;
      overridden = grown.overridden;
      added = grown.added ∙ ready.added;
      texts = subst (λ (o : Options). HoldsTexts platform o w.texts w.first.scripts old.rules) (sym options) texts;
    })
    anew wraps (subst (λ (o : Options). HasBatches platform demangle o w.texts w.first w.later (with_batch before b)) (sym options) (has-batches platform demangle w done b before is))

-- what is read of texts is that of the first batch's scripts
pub texts-held : {P : Type 0} (platform : PlatformRules) (demangle : Bytes → Bytes) (w : World) (done : List Batch) (b : Batch) (before : Stage) (first old : Database P)
    (numbers : List ℕ) (known : Known) → IsBefore platform demangle w done b before → IsReady platform w done before first numbers known
    → ((options : Options) (texts : Scripts) (scripts : List ProcessedLinkerScript) → HoldsTexts platform options texts scripts first.rules → HoldsTexts platform options texts (scripts ++ b.scripts) old.rules)
    → (IsTrue (not (is_empty first.mapping.files.groups)) → old.rules ≡ first.rules)
    → HoldsTexts platform w.options w.texts w.first.scripts old.rules
texts-held {P} platform demangle w done b before first old numbers known is ready more late = by done is.batches ready.holds ready.groups
  where
    first-is : (x y : Batch) (xs ys : List Batch) → x ∷ xs ≡ y ∷ ys → x ≡ y
    first-is x y xs ys same = cc

    some : (c : Batch) (cs : List Batch) → AreGroupsOf first.options (c ∷ cs) first.mapping.files.groups → IsTrue (not (is_empty first.mapping.files.groups))
    some c cs are = late-batches first.options (c ∷ cs) first.mapping.files.groups are

    by : (bs : List Batch) → w.first ∷ w.later ≡ bs ++ b ∷ [] → HoldsTexts platform w.options w.texts (first_scripts bs) first.rules
        → AreGroupsOf first.options bs first.mapping.files.groups → HoldsTexts platform w.options w.texts w.first.scripts old.rules
    by [] batches holds groups =
        subst (λ (x : Batch). HoldsTexts platform w.options w.texts x.scripts old.rules) (sym (first-is w.first b w.later [] batches)) (more w.options w.texts [] holds)
    by (c ∷ cs) batches holds groups =
        subst (λ (x : Batch). HoldsTexts platform w.options w.texts x.scripts old.rules) (sym (first-is w.first c w.later (cs ++ b ∷ []) batches))
        (subst (λ (r : ReadTexts). HoldsTexts platform w.options w.texts c.scripts r) (sym (late (some c cs groups))) holds)

-- ---- flags

-- there are as many flags as symbols
pub numbers-counted : (words : List RawFlags) {n m : ℕ} → n ≡ m → length words ≡ m → length (numbers_of words) ≡ n
numbers-counted words counted many = length-map words (λ (w : RawFlags). w.0) ∙ (many ∙ sym counted)

-- a batch takes no name away
pub names-stay : {P : Type 0} (first old : Database P) → IsGrown first old → HasTable first → length (symbol_names first) ≤ length (symbol_names old)
names-stay {P} first old grown whole =
    let table = ap (λ (l : List ℕ). length l) grown.table in
    let both = length-append first.table (range_with_len (length first.table) (length (symbol_names old) - length first.table)) in
    let all = grown.whole in
    omega (arith, table, both, all, whole)

-- nor a symbol
pub symbols-stay : {P : Type 0} (first old : Database P) → IsGrown first old → HasTable first → first.mapping.files.added ≡ []
    → length (symbols_in first.mapping.files.groups) ≤ length (symbols_in old.mapping.files.groups)
symbols-stay {P} first old grown whole none =
    let here = count-symbols first.mapping.files first.mapping.files refl none in
    let there = count-symbols old.mapping.files old.mapping.files refl (grown.added ∙ none) in
    let more = names-stay first old grown whole in
    omega (arith, here, there, more)

-- behind the flags that a batch left stand the opening flags of the symbols that the next one brings
flags-behind : (w : Stage) (i : ℕ) (flags : List ℕ) (xs : List Symbol) → ((k : ℕ) → slice_get w.earlier.flags (i + k) ≡ slice_get flags k) → length flags ≤ length xs
    → flags ++ map (opening_flags w) (drop (length flags) xs) ≡ each_from (flags_before w) i xs
flags-behind w i [] [] left few = refl
flags-behind w i [] (x ∷ xs) left few =
    let none : List ℕ = [] in
    let here : i + 0 ≡ i = omega arith in
    let next : (k : ℕ) → slice_get w.earlier.flags (i + 1 + k) ≡ slice_get none k = λ k. let at : i + suc k ≡ i + 1 + k = omega arith in ap (λ n. slice_get w.earlier.flags n) (sym at) ∙ left (suc k) in
    ap (λ n. n ∷ map (opening_flags w) xs) (sym (ap (λ (o : Option ℕ). unwrap_or o (opening_flags w x)) (ap (λ n. slice_get w.earlier.flags n) (sym here) ∙ left 0)))
    ∙ ap (λ rest. flags_before w i x ∷ rest) (flags-behind w (i + 1) [] xs next (omega arith))
flags-behind w i (f ∷ flags) [] left few = absurd (omega (arith, few))
flags-behind w i (f ∷ flags) (x ∷ xs) left few =
    let here : i + 0 ≡ i = omega arith in
    let next : (k : ℕ) → slice_get w.earlier.flags (i + 1 + k) ≡ slice_get flags k = λ k. let at : i + suc k ≡ i + 1 + k = omega arith in ap (λ n. slice_get w.earlier.flags n) (sym at) ∙ left (suc k) in
    ap (λ n. n ∷ (flags ++ map (opening_flags w) (drop (length flags) xs)))
    (sym (ap (λ (o : Option ℕ). unwrap_or o (opening_flags w x)) (ap (λ n. slice_get w.earlier.flags n) (sym here) ∙ left 0)))
    ∙ ap (λ rest. flags_before w i x ∷ rest) (flags-behind w (i + 1) flags xs next (omega (arith, few)))

-- the flags that were read are those before the batch is loaded
pub opening-are : {P : Type 0} (w : Stage) (first old : Database P) (words after : List RawFlags) → w.earlier.flags ≡ numbers_of words
    → length (numbers_of words) ≡ length (symbols_in first.mapping.files.groups) → length (symbols_in first.mapping.files.groups) ≤ length (symbols_in old.mapping.files.groups)
    → w.symbols ≡ symbols_in old.mapping.files.groups → HaveOpeningFlags w first old words after
    → numbers_of after ≡ each_from (flags_before w) 0 w.symbols
opening-are {P} w first old words after left each more symbols have =
    let few : length (numbers_of words) ≤ length (symbols_in old.mapping.files.groups) = omega (arith, each, more) in
    have
    ∙ (ap (λ n. numbers_of words ++ map (opening_flags w) (drop n (symbols_in old.mapping.files.groups))) (sym each)
    ∙ (flags-behind w 0 (numbers_of words) (symbols_in old.mapping.files.groups) (λ k. let at : 0 + k ≡ k = omega arith in ap (λ n. slice_get w.earlier.flags n) at ∙ ap (λ (fs : List ℕ). slice_get fs k) left) few
    ∙ ap (λ (xs : List Symbol). each_from (flags_before w) 0 xs) (sym symbols)))

-- ---- room

-- a stage of these files
abbrev stage_of_files : PlatformRules → Options → List Batch → Stage
stage_of_files platform options batches = record {
  objects = flat_map (λ (b : Batch). b.objects) batches;
  scripts = flat_map (λ (b : Batch). b.scripts) batches;
  stubs = flat_map (λ (b : Batch). b.stubs) batches;
  options = options;
  texts = record { version_script = None; export_list = None };
  rules = rules_of platform (λ name. name) options (record { version_script = None; export_list = None }) [];
  symbols = symbols_of 0 (input_files options batches);
  earlier = nothing_earlier;
}

-- ids can name what the groups of some batches hold, and more
room-for : {P : Type 0} (platform : PlatformRules) (options : Options) (b : Batch) (bs : List Batch) (db : Database P) (flags : List RawFlags)
    → AreGroupsOf options (b ∷ bs) db.mapping.files.groups → length (b ∷ bs) ≤ 256 → db.options ≡ options → db.mapping.files.added ≡ [] → HasTable db
    → length flags ≡ length (symbol_names db) → HasRoom db flags
room-for {P} platform options b bs db flags groups many same none table words =
    let s = stage_of_files platform options (b ∷ bs) in
    let symbols : length (symbols_in db.mapping.files.groups) ≡ length s.symbols = ap (λ (xs : List Symbol). length xs) (symbols-of-batches options b bs db.mapping.files.groups groups) in
    let counted : (counts_at s).symbols ≡ (counts_of options (b ∷ bs)).symbols =
    ap (λ (c : Counts). c.symbols) (counts-are options (b ∷ bs) s (record { options_are = refl; symbols = refl; objects = refl; scripts = refl; stubs = refl })) in
    let own : length (symbols_in db.mapping.files.groups) ≡ length (symbol_names db) = count-symbols db.mapping.files db.mapping.files refl none in
    let sections : length db.options.custom_sections ≡ length options.custom_sections = ap (λ (o : Options). length o.custom_sections) same in
    record {
      table = table;
      flags = words;
      groups = let few = groups.few in let within = groups.within.objects in omega (arith, few, within, many);
      fits = let within = groups.within.symbols in omega (arith, symbols, counted, own, sections, within);
    }

-- so they can where one batch came behind some
pub has-room : {P : Type 0} (platform : PlatformRules) (options : Options) (done : List Batch) (b : Batch) (db : Database P) (flags : List RawFlags)
    → AreGroupsOf options (done ++ b ∷ []) db.mapping.files.groups → length done < 256 → db.options ≡ options → db.mapping.files.added ≡ [] → HasTable db
    → length flags ≡ length (symbol_names db) → HasRoom db flags
has-room platform options [] b db flags groups few same none table words = room-for platform options b [] db flags groups (omega arith) same none table words
has-room platform options (c ∷ cs) b db flags groups few same none table words =
    room-for platform options c (cs ++ b ∷ []) db flags groups (let many = length-append cs (b ∷ []) in omega (arith, few, many)) same none table words

-- a batch takes no object away
pub objects-stay : {P : Type 0} (options : Options) (done : List Batch) (b : Batch) (old new : List (Group P)) → AreGroupsOf options done old → AreGroupsOf options (done ++ b ∷ []) new
    → length (objects_in old) ≤ length (objects_in new)
objects-stay {P} options done b old new before after =
    let here = ap (λ (os : List ObjectFile). length os) (objects-of-batches options done old before) in
    let there = ap (λ (os : List ObjectFile). length os) (objects-of-batches options (done ++ b ∷ []) new after) in
    let both = ap (λ (os : List ObjectFile). length os) (flat_map-append (λ (c : Batch). c.objects) done (b ∷ [])) in
    let more = length-append (flat_map (λ (c : Batch). c.objects) done) (flat_map (λ (c : Batch). c.objects) (b ∷ [])) in
    omega (arith, here, there, both, more)
