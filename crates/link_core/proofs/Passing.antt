-- How far a link has come after each of its calls.
use Rattle.std.proofs.Common.{◌≡◌, ◌∙◌, ◌+◌, ◌*◌, ◌<◌, ◌≤◌, ◌^◌, ◌⊎◌, ◌++◌, ℕ, List, [], ◌∷◌, Bool, true, false, not, Option, None, Some, Result, Ok, Err, append-nil, arith, inl, inr, refl, sym, ap, subst, length, map}
use Rattle.std.specs.Prelude.{◌||◌, IfErr, IfOk, IfSome, filter_map, is_some, option_and_then}
use Rattle.std.specs.List.{cons_option, flat_map, slice_index_or}
use Rattle.std.specs.Option.{option_or}
use Rattle.std.specs.Result.{IsErrAnd}
use Rattle.std.proofs.lemmas.List.Elements.{filter_map-append}
use Rattle.link_input.specs.declared.options.Options.{Options}
use Rattle.link_input.specs.declared.world.ProcessedLinkerScript.{ProcessedLinkerScript}
use Rattle.link_input.specs.declared.world.Scripts.{Scripts}
use Rattle.link_input.specs.InputFiles.{Batch}
use Rattle.link_input.specs.Symbols.{Symbol}
use Rattle.link_flags.specs.declared.value_flags.RawFlags.{RawFlags}
use Rattle.link_resolve_discarded.proofs.Newly.{regular-more}
use Rattle.link_resolve_discarded.specs.Checked.{WereGroupsFine}
use Rattle.link_resolve_discarded.specs.Indexed.{AreGroupsOf}
use Rattle.link_db_files.specs.GroupFiles.{symbols_in}
use Rattle.link_db_files.specs.HeldFiles.{names_in}
use Rattle.link_db_files.specs.Inputs.{objects_in}
use Rattle.link_rules.specs.declared.refusal.LinkError.{LinkError}
use Rattle.link_rules.specs.declared.refusal.LinkError.TheVariants.{Memory}
use Rattle.link_rules.specs.Answer.{EndsWith}
use Rattle.link_rules.specs.FinalFlags.{final_flags}
use Rattle.link_rules.specs.Loading.{IsLoaded}
use Rattle.link_rules.specs.Marking.{ended, marked_flags}
use Rattle.link_rules.specs.Orderly.{IsOrderly}
use Rattle.link_rules.specs.Places.{Bytes, each_from, first_of, is_empty}
use Rattle.link_rules.specs.Refusals.{duplicate_lines, empty_refusal, group_cause, group_refusal, linker_script_cause, text_refusal, unless_none, version_text_cause}
use Rattle.link_rules.specs.Rivals.{reference_table, versioned_table}
use Rattle.link_rules.specs.Rules.{PlatformRules, taken_text}
use Rattle.link_rules.specs.Selection.{Selection, selection_of}
use Rattle.link_rules.specs.Undefined.{boundary_makers, final_table, left_undefined, resolved}
use Rattle.link_rules.specs.Visibility.{narrowed_symbol}
use Rattle.link_rules.specs.World.{Earlier, Stage, World, start_of, with_batch}
use Rattle.link_rules.proofs.Files.{starts}
use Rattle.link_rules.proofs.Stages.{orderly-grows, orderly-start, orderly-stays}
use Rattle.link_db_texts.specs.Causes.{TellsCause}
use Rattle.link_script_syntax.specs.declared.profile.ScriptProfile.{ScriptProfile}
use Rattle.link_db_texts.specs.Holds.{AreRulesOf, HoldsTexts}
use Rattle.link_db_texts.specs.ReadTexts.{ReadTexts}
use Rattle.link_db_mapping.specs.Mapped.{AreListed, Mapped, mapping_of}
use Rattle.link_db_symbols.specs.Lookups.{AreBelow}
use Rattle.link_db.specs.Database.{Database, HasTable, no_names, symbol_names}
use Rattle.link_resolve.specs.Known.{IsLoadedSelection, IsSelection, Known}
use Rattle.link_resolve.specs.Resolving.{IsNextStage, Resolving, loading_cause, nothing_known, with_groups}
use Rattle.link_resolve.specs.Settled.{IsSettled, meaning_at_end}
use Rattle.link_flags.specs.declared.strength.SymbolStrength.{SymbolStrength}
use Rattle.link_core.specs.Steps.{HasRoom, HasRules, IsAdded, IsBefore, IsEndedWith, IsHeldAt, IsLoadedWith, IsPointedWith, IsReady, IsSettledWith, IsSteady, first_scripts, inputs_refusal}
use Rattle.link_core.proofs.NextStage.{all-files}
use Rattle.link_core.proofs.Batches.{ends-behind, first-none, links-loaded, second-none}

-- there is room for as much where the files are the same
pub room-kept : {P : Type 0} (old new : Database P) (before after : List RawFlags) → new.mapping.files ≡ old.mapping.files → new.options ≡ old.options → HasTable new
    → length after ≡ length before → HasRoom old before → HasRoom new after
room-kept {P} old new before after files options whole words room =
    let names : length (symbol_names new) ≡ length (symbol_names old) = λ i. length (map (λ x. x.name) (symbols_in (files i).groups) ++ (files i).added) in
    record {
      table = whole;
      flags = words ∙ (room.flags ∙ sym names);
      groups = subst (λ held. length held.groups < 2 ^ 24) (sym files) room.groups;
      fits = subst (λ n. n + 2 * length new.options.custom_sections < 2 ^ 32) (sym names)
          (subst (λ (o : Options). length (symbol_names old) + 2 * length o.custom_sections < 2 ^ 32) (sym options) room.fits);
    }

-- ---- one batch more

-- no linker script of a late batch that is accepted has a version text
no-versions : (profile : ScriptProfile) (taken : Bool) (i : ℕ) (scripts : List ProcessedLinkerScript) → linker_script_cause profile true taken i scripts ≡ None → filter_map (λ (s : ProcessedLinkerScript). s.version) scripts ≡ []
no-versions profile taken i [] none = refl
no-versions profile taken i (s ∷ ss) none = by s.version refl (λ t n. no-versions profile t n ss)
  where
    never : (b : Bool) (rest : Option LinkError) (x : Bytes) → option_or (version_text_cause profile true b i x) rest ≡ None → ⊥
    never true rest x is = cc
    never false rest x is = cc

    by : (o : Option Bytes) → s.version ≡ o
        → ((t : Bool) (n : ℕ) → linker_script_cause profile true t n ss ≡ None → filter_map (λ (x : ProcessedLinkerScript). x.version) ss ≡ [])
        → filter_map (λ (x : ProcessedLinkerScript). x.version) (s ∷ ss) ≡ []
    by None is others =
        let rest : linker_script_cause profile true (taken || false) (i + 1) ss ≡ None = sym (ap (λ (o : Option Bytes). option_or (option_and_then (version_text_cause profile true taken i) o) (linker_script_cause profile true (taken || is_some o) (i + 1) ss)) is) ∙ none in
        ap (λ (o : Option Bytes). cons_option o (filter_map (λ (x : ProcessedLinkerScript). x.version) ss)) is ∙ others (taken || false) (i + 1) rest
    by (Some x) is others =
        absurd (never taken (linker_script_cause profile true (taken || true) (i + 1) ss) x
        (sym (ap (λ (o : Option Bytes). option_or (option_and_then (version_text_cause profile true taken i) o) (linker_script_cause profile true (taken || is_some o) (i + 1) ss)) is) ∙ none))

-- the script that is taken stays the same where no version text comes
taken-same : (texts : Scripts) (before more : List ProcessedLinkerScript) → filter_map (λ (s : ProcessedLinkerScript). s.version) more ≡ [] → taken_text texts (before ++ more) ≡ taken_text texts before
taken-same texts before more none =
    ap (λ (vs : List Bytes). option_or texts.version_script (first_of vs))
    (filter_map-append (λ (s : ProcessedLinkerScript). s.version) before more
    ∙ (ap (λ (vs : List Bytes). filter_map (λ (s : ProcessedLinkerScript). s.version) before ++ vs) none ∙ append-nil (filter_map (λ (s : ProcessedLinkerScript). s.version) before)))

-- the first of a list is the first of what it is
first-is : (x y : Batch) (xs ys : List Batch) → x ∷ xs ≡ y ∷ ys → x ≡ y
first-is x y xs ys is = cc

-- with one batch more the same script is taken as with the first one
taken-more : (platform : PlatformRules) (demangle : Bytes → Bytes) (w : World) (done : List Batch) (b : Batch) (before : Stage) → IsBefore platform demangle w done b before
    → inputs_refusal (not (is_empty done)) before b ≡ None
    → is_some (taken_text w.texts (before.scripts ++ b.scripts)) ≡ is_some (taken_text w.texts w.first.scripts)
taken-more platform demangle w done b before is none = by done is.batches is.files.scripts is.taken none
  where
    by : (bs : List Batch) → w.first ∷ w.later ≡ bs ++ b ∷ [] → before.scripts ≡ flat_map (λ (c : Batch). c.scripts) bs
        → is_some (taken_text w.texts before.scripts) ≡ is_some (taken_text w.texts (first_scripts bs)) → inputs_refusal (not (is_empty bs)) before b ≡ None
        → is_some (taken_text w.texts (before.scripts ++ b.scripts)) ≡ is_some (taken_text w.texts w.first.scripts)
    by [] batches scripts taken fine =
        ap (λ (ss : List ProcessedLinkerScript). is_some (taken_text w.texts (ss ++ b.scripts))) scripts
        ∙ ap (λ (c : Batch). is_some (taken_text w.texts c.scripts)) (sym (first-is w.first b w.later [] batches))
    by (c ∷ cs) batches scripts taken fine =
        let free = no-versions before.options.script_profile (is_some (taken_text before.texts before.scripts)) (length before.scripts) b.scripts (first-none _ _ fine) in
        ap (λ (o : Option Bytes). is_some o) (taken-same w.texts before.scripts b.scripts free)
        ∙ (taken ∙ ap (λ (x : Batch). is_some (taken_text w.texts x.scripts)) (sym (first-is w.first c w.later (cs ++ b ∷ []) batches)))

-- the stage at which the batch is loaded is the next one of the resolver
pub next-stage : {P : Type 0} (platform : PlatformRules) (demangle : Bytes → Bytes) (w : World) (done : List Batch) (b : Batch) (before : Stage) (first db : Database P)
    (numbers after : List ℕ) (known : Known) → IsBefore platform demangle w done b before → IsReady platform w done before first numbers known
    → IsAdded platform demangle w (with_batch before b) db after → IsNextStage platform demangle db known (with_batch before b)
next-stage platform demangle w done b before first db numbers after known is ready added = record {
  stage = added.stage;
  orderly = orderly-grows before b is.orderly;
  loaded = ap (λ (e : Earlier). e.loaded) ready.left;
  targets = ap (λ (e : Earlier). e.targets) ready.left;
}

-- no object that was loaded before lists a section twice there
pub fine-grows : (before : Stage) (b : Batch) → IsOrderly before → WereGroupsFine before → WereGroupsFine (with_batch before b)
fine-grows before b orderly fine =
    ap (λ os. first_of (filter_map group_cause os)) (regular-more before.earlier.loaded before.objects b.objects orderly.loaded) ∙ fine

-- once the batch is loaded, all batches of the world are held
pub held-next : {P : Type 0} (platform : PlatformRules) (demangle : Bytes → Bytes) (w : World) (done : List Batch) (b : Batch) (before : Stage) (db : Database P)
    (read flags : List ℕ) (r : Resolving) (marks : List Bool) → IsBefore platform demangle w done b before → IsAdded platform demangle w (with_batch before b) db read
    → inputs_refusal (not (is_empty done)) before b ≡ None → IsLoaded (with_batch before b) marks → loading_cause (with_batch before b) marks ≡ None
    → IsLoadedSelection platform demangle db r.known (selection_of (with_batch before b) marks)
    → flags ≡ marked_flags (selection_of (with_batch before b) marks)
    → IsHeldAt platform demangle w (selection_of (with_batch before b) marks) db flags r
held-next platform demangle w done b before db read flags r marks is added none loaded fine selection marked =
    let s = with_batch before b in
    let l = selection_of s marks in
    record {
      loaded = record {
        selects = record { texts = is.texts; ends = is.ends (Ok l) (links-loaded (not (is_empty done)) before b marks none loaded fine) };
        selection = selection;
        is = refl;
        fine = second-none (empty_refusal s) (group_refusal l) fine;
        flags = marked;
      };
      least = loaded;
      orderly = orderly-grows before b is.orderly;
      rules = is.rules;
      rules_are = is.rules_are;
      files = all-files platform demangle w done b before is;
      texts_are = is.texts_are;
      taken = taken-more platform demangle w done b before is none;
      groups = added.groups;
      holds = added.holds;
    }

-- a world with one batch more
abbrev pub with_one_more : World → Batch → World
with_one_more w b = record w { later = w.later ++ b ∷ [] }

-- another batch may come behind those that are held
pub before-next : {P : Type 0} (platform : PlatformRules) (demangle : Bytes → Bytes) (w : World) (b : Batch) (l : Selection) (db : Database P) (numbers : List ℕ) (r : Resolving)
    → IsHeldAt platform demangle w l db numbers r → IsBefore platform demangle (with_one_more w b) (w.first ∷ w.later) b (ended l)
before-next platform demangle w b l db numbers r is = record {
  batches = refl;
  rules = is.rules;
  texts = is.loaded.selects.texts;
  ends = λ end links. ends-behind false (start_of w) w.first w.later l b end is.loaded.selects.ends links;
  orderly = subst (λ (k : Selection). IsOrderly (ended k)) (sym is.loaded.is) (orderly-stays l.stage l.marks is.orderly is.least);
  fine = is.loaded.fine;
  files = record { options_are = is.files.options_are; symbols = is.files.symbols; objects = is.files.objects; scripts = is.files.scripts; stubs = is.files.stubs };
  texts_are = is.texts_are;
  rules_are = is.rules_are;
  taken = is.taken;
}

pub ready-next : {P : Type 0} (platform : PlatformRules) (demangle : Bytes → Bytes) (w : World) (b : Batch) (l : Selection) (db : Database P) (numbers : List ℕ) (r : Resolving)
    → IsHeldAt platform demangle w l db numbers r → IsReady platform (with_one_more w b) (w.first ∷ w.later) (ended l) db numbers r.known
ready-next platform demangle w b l db numbers r is =
    let stage = is.loaded.selection.stage in
    record {
      options = sym stage.options ∙ is.files.options_are;
      groups = is.groups;
      lists = subst (λ (xs : List Symbol). AreListed xs db.mapping) stage.symbols stage.lists;
      added = stage.added;
      holds = is.holds;
      left = λ i. record { loaded = is.loaded.selection.marks i; targets = is.loaded.selection.targets i; flags = sym is.loaded.flags i };
    }

-- before any batch, the first one may come
pub before-first : (platform : PlatformRules) (demangle : Bytes → Bytes) (w : World) → w.later ≡ [] → HasRules platform demangle w → text_refusal w ≡ None
    → IsBefore platform demangle w [] w.first (start_of w)
before-first platform demangle w one rules texts =
    let files = starts w in
    record {
      batches = ap (λ (bs : List Batch). w.first ∷ bs) one;
      rules = rules;
      texts = texts;
      ends = λ end links. subst (λ (bs : List Batch). EndsWith false (start_of w) w.first bs end) (sym one) links;
      orderly = orderly-start w;
      fine = refl;
      files = record { options_are = files.same_options; symbols = files.symbols; objects = files.objects; scripts = files.scripts; stubs = files.stubs };
      texts_are = refl;
      rules_are = refl;
      taken = refl;
    }

pub ready-first : {P : Type 0} (platform : PlatformRules) (w : World) (db : Database P) (numbers : List ℕ) (known : Known) → db.options ≡ w.options → db.mapping ≡ no_names
    → HoldsTexts platform w.options w.texts [] db.rules → numbers ≡ [] → known ≡ nothing_known → IsReady platform w [] (start_of w) db numbers known
ready-first {P} platform w db numbers known options none holds zero nothing = record {
  options = options;
  groups = ap (λ (m : Mapped P). m.files.groups) none;
  lists = subst (λ (m : Mapped P). AreListed (symbols_in m.files.groups) m) (sym none) (record { plain = λ name. refl; versioned = λ name version. refl });
  added = ap (λ (m : Mapped P). m.files.added) none;
  holds = holds;
  left = λ i. record { loaded = sym (ap (λ (k : Known). k.marks) nothing) i; targets = sym (ap (λ (k : Known). k.targets) nothing) i; flags = sym zero i };
}

-- where there is no file, a batch may come
pub nothing-steady : {P : Type 0} (db : Database P) (words : List RawFlags) (known : Known) → db.mapping ≡ no_names → db.table ≡ [] → words ≡ [] → known ≡ nothing_known → IsSteady db words known
nothing-steady {P} db words known none table zero nothing = record {
  table = ap (λ (l : List ℕ). length l) table ∙ sym (ap (λ (m : Mapped P). length (names_in m.files)) none);
  flags = ap (λ (l : List RawFlags). length l) zero ∙ sym (ap (λ (m : Mapped P). length (names_in m.files)) none);
  listed = record {
    lists = subst (λ (m : Mapped P). AreListed (symbols_in m.files.groups) m) (sym none) (record { plain = λ name. refl; versioned = λ name version. refl });
    added = ap (λ (m : Mapped P). m.files.added) none;
  };
  targets = subst (λ (k : Known). AreBelow (length (symbol_names db)) k.targets) (sym nothing) (λ k d lt. absurd (omega (arith, lt)));
}

-- where nothing is known, no object is
pub few-known : (known : Known) (n : ℕ) → known ≡ nothing_known → length known.marks ≤ n
few-known known n nothing = subst (λ (k : Known). length k.marks ≤ n) (sym nothing) (omega arith)

-- targets that are among some symbols are among more
pub below-more : (n m : ℕ) (targets : List (Option ℕ)) → n ≤ m → AreBelow n targets → AreBelow m targets
below-more n m targets more below = λ k d lt. by (slice_index_or targets k d) (below k d lt)
  where
    by : (o : Option ℕ) → IfSome o (λ t. t < n) → IfSome o (λ t. t < m)
    by None held = tt
    by (Some t) held = omega (arith, held, more)

-- ---- behind the last batch

-- where no group was a cause, memory ran out
pub only-memory : (A : Type 0) (cause : Option LinkError) (e : LinkError) → cause ≡ None → TellsCause {A = A} cause (Err e) → e ≡ Memory
only-memory A cause e none (inl memory) = memory
only-memory A cause e none (inr is) = absurd (let wrong : None ≡ Some e = sym none ∙ is in cc)

-- each symbol points to what it stands for, with what was answered for what is loaded
pub pointed-with : {P : Type 0} (platform : PlatformRules) (demangle : Bytes → Bytes) (w : World) (l : Selection) (old new : Database P) (numbers : List ℕ) (before after : Resolving) (strengths : List SymbolStrength)
    → IsLoadedWith platform demangle w l old numbers before → after ≡ with_groups after.groups strengths before
    → ((s : Stage) (marks : List Bool) → IsLoadedSelection platform demangle old before.known (selection_of s marks) → IsSelection platform demangle new after.known (selection_of s marks))
    → ((s : Stage) (marks : List Bool) → IsLoadedSelection platform demangle old before.known (selection_of s marks) → AreGroupsOf marks s.objects after.groups)
    → (IsLoadedSelection platform demangle old before.known l → new.table ≡ reference_table l)
    → IsPointedWith platform demangle w l new numbers after
pointed-with platform demangle w l old new numbers before after strengths loaded same selection groups table = record {
  selects = loaded.selects;
  selection = subst (λ (k : Selection). IsSelection platform demangle new after.known k) (sym loaded.is)
      (selection l.stage l.marks (subst (λ (k : Selection). IsLoadedSelection platform demangle old before.known k) loaded.is loaded.selection));
  groups = subst (λ (ms : List Bool). AreGroupsOf ms l.stage.objects after.groups) (loaded.selection.marks ∙ sym (ap (λ (r : Resolving). r.known.marks) same))
      (groups l.stage l.marks (subst (λ (k : Selection). IsLoadedSelection platform demangle old before.known k) loaded.is loaded.selection));
  table = table loaded.selection;
  flags = loaded.flags;
}

-- rivals are settled, with what was answered for what is known
pub settled-with : {P : Type 0} (platform : PlatformRules) (demangle : Bytes → Bytes) (w : World) (l : Selection) (old left : Database P) (before flags : List ℕ) (r : Resolving)
    → IsPointedWith platform demangle w l old before r → unless_none (duplicate_lines l) ≡ None → IsSettled left r.known l
    → left.rules ≡ old.rules → left.table ≡ versioned_table l → flags ≡ each_from (narrowed_symbol l.stage before) 0 l.stage.symbols
    → IsSettledWith platform demangle w l left flags r
settled-with {P} platform demangle w l old left before flags r loaded none settled rules table narrowed = record {
  selects = loaded.selects;
  duplicates = none;
  settled = settled;
  known = λ i. record { marks = sym loaded.selection.marks i; targets = sym loaded.selection.targets i; strengths = sym loaded.selection.strengths i };
  rules = subst (λ (read : ReadTexts). AreRulesOf platform demangle read l.stage.rules) (sym rules) loaded.selection.stage.rules;
  groups = loaded.groups;
  table = table;
  flags = narrowed ∙ ap (λ (fs : List ℕ). each_from (narrowed_symbol l.stage fs) 0 l.stage.symbols) loaded.flags;
}

-- the link is at its end, with what was answered for what is settled
pub ended-with : {P : Type 0} (platform : PlatformRules) (demangle : Bytes → Bytes) (w : World) (l : Selection) (old new : Database P) (before flags : List ℕ) (r : Resolving)
    → IsSettledWith platform demangle w l old before r → symbols_in new.mapping.files.groups ≡ symbols_in old.mapping.files.groups
    → objects_in new.mapping.files.groups ≡ objects_in old.mapping.files.groups → new.options ≡ old.options → new.rules ≡ old.rules
    → new.table ≡ final_table l
    → new.mapping.files.added ≡ map (λ m. m.1.name) (boundary_makers l.stage (left_undefined l))
    → ((name : Bytes) → mapping_of new.mapping name ≡ meaning_at_end l name)
    → flags ≡ final_flags (resolved l)
    → IsEndedWith platform demangle w l new flags r
ended-with {P} platform demangle w l old new before flags r is symbols objects options rules table added names final = record {
  selects = is.selects;
  duplicates = is.duplicates;
  ended = record {
    symbols = is.settled.symbols ∙ sym symbols;
    options = is.settled.options ∙ sym options;
    rules = subst (λ (read : ReadTexts). AreRulesOf platform demangle read l.stage.rules) (sym rules) is.rules;
    marks = is.settled.marks;
    table = table;
  };
  objects = is.settled.objects ∙ sym objects;
  groups = is.groups;
  added = added;
  kept = record {
    options = sym (is.settled.options ∙ sym options);
    objects = sym (is.settled.objects ∙ sym objects);
    symbols = sym (is.settled.symbols ∙ sym symbols);
    names = names;
    known_is = is.known;
    groups_are = subst (λ (ms : List Bool). AreGroupsOf ms l.stage.objects r.groups) (ap (λ (k : Known). k.marks) is.known) is.groups;
  };
  flags = final;
}

-- ---- refusals

-- what holds of an error holds where it is handed on
pub refused-through : {A : Type 0} (r : Result A LinkError) (P : LinkError → Type 0) (e : LinkError) → IsErrAnd r (λ x. x ≡ e) → P e → IfErr r P
refused-through (Ok x) P e same held = tt
refused-through (Err x) P e same held = subst P (sym same) held

-- what holds of an answer also holds in another way
pub ok-into : {A E : Type 0} (r : Result A E) (P Q : A → Type 0) → ((x : A) → P x → Q x) → IfOk r P → IfOk r Q
ok-into (Ok x) P Q into held = into x held
ok-into (Err e) P Q into held = tt

-- what follows of two facts
pub ok-both : {A E : Type 0} (r : Result A E) (P Q R : A → Type 0) → ((x : A) → P x → Q x → R x) → IfOk r P → IfOk r Q → IfOk r R
ok-both (Ok x) P Q R into first second = into x first second
ok-both (Err e) P Q R into first second = tt

-- and so of an error
pub err-into : {A E : Type 0} (r : Result A E) (P Q : E → Type 0) → ((e : E) → P e → Q e) → IfErr r P → IfErr r Q
err-into (Ok x) P Q into held = tt
err-into (Err e) P Q into held = into e held

-- what follows from a cause follows where a call tells it, unless memory ran out
pub told-by : (A Follows : Type 0) (cause : Option LinkError) (e : LinkError) → (cause ≡ Some e → Follows) → TellsCause {A = A} cause (Err e) → Follows ⊎ (e ≡ Memory)
told-by A Follows cause e follows (inl memory) = inr memory
told-by A Follows cause e follows (inr is) = inl (follows is)
