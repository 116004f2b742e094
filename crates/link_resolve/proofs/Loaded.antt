-- What is known once the objects of a batch are loaded.
use Rattle.std.proofs.Common.{◌≡◌, ◌∙◌, ◌++◌, ◌≤◌, ℕ, Bool, List, [], ◌∷◌, Option, Some, None, Result, Ok, Err, IfOk, ap, append-nil, arith, length, map, refl, subst, sym, if◌then◌else◌}
use Rattle.std.proofs.lemmas.List.{length-map}
use Rattle.link_resolve_comdat.specs.Selected.{selected}
use Rattle.link_resolve_discarded.proofs.Same.{same-strengths}
use Rattle.link_resolve_discarded.specs.Discarded.{discarded_in}
use Rattle.link_resolve_discarded.specs.Indexed.{AreGroupsOf, IndexedGroups, index_at, index_of}
use Rattle.link_resolve_discarded.specs.Regular.{regular_among}
use Rattle.link_flags.specs.declared.strength.SymbolStrength.{SymbolStrength}
use Rattle.link_input.specs.ObjectFile.{ObjectFile}
use Rattle.link_input.specs.Symbols.{Symbol}
use Rattle.link_rules.proofs.WorldOnce.{one-loaded}
use Rattle.link_rules.specs.Comdat.{discarded_groups}
use Rattle.link_rules.specs.Loading.{IsLoaded}
use Rattle.link_rules.specs.Places.{Bytes, each_from, is_empty}
use Rattle.link_rules.specs.Selection.{Selection, loaded_target, selection_of, surviving_origin, surviving_strengths}
use Rattle.link_rules.specs.World.{Stage}
use Rattle.link_db_files.specs.GroupFiles.{symbols_in}
use Rattle.link_db_files.specs.Inputs.{objects_in, scripts_in}
use Rattle.link_db_texts.specs.Holds.{AreRulesOf}
use Rattle.link_db_texts.specs.ReadTexts.{ReadTexts}
use Rattle.link_db_mapping.specs.Mapped.{AreListed, Mapped, mapping_of}
use Rattle.link_rules.specs.Refusals.{empty_refusal}
use Rattle.link_rules.specs.declared.refusal.LinkError.TheVariants.{NoInputs}
use Rattle.link_rules.specs.Rules.{PlatformRules}
use Rattle.link_db_stage.specs.AtStage.{IsAtStage}
use Rattle.link_db_symbols.specs.Lookups.{AreBelow, IsSelectionOf}
use Rattle.link_db.specs.Database.{Database, symbol_names}
use Rattle.link_resolve_extraction.specs.Answer.{AreTargetsRead}
use Rattle.link_resolve_extraction.specs.declared.found.FoundItem.{FoundItem}
use Rattle.link_resolve.specs.Known.{IsLoadedSelection, IsSelection, Known}
use Rattle.link_resolve.specs.NextBatch.{IsPointed}
use Rattle.link_resolve.specs.Resolving.{IsNextStage, Resolving, known_of}

-- all of this
abbrev known_with : List Bool → List (Option ℕ) → List SymbolStrength → Known
known_with marks targets strengths = record { marks = marks; targets = targets; strengths = strengths }

-- what was computed of these loaded objects is known of a selection of as many
pub known-is : (w : Stage) (marks loaded : List Bool) (targets : List (Option ℕ)) (strengths : List SymbolStrength) → IsLoaded w loaded → IsLoaded w marks
    → targets ≡ each_from (loaded_target w loaded) 0 w.symbols → strengths ≡ surviving_strengths w loaded (discarded_groups w loaded)
    → known_with loaded targets strengths ≡ known_of (selection_of w marks)
known-is w marks loaded targets strengths own asked targets_are strengths_are =
    ap (λ (ts : List (Option ℕ)). known_with loaded ts strengths) targets_are
    ∙ (ap (λ (ss : List SymbolStrength). known_with loaded (each_from (loaded_target w loaded) 0 w.symbols) ss) strengths_are
    ∙ ap (λ (ms : List Bool). known_of (selection_of w ms)) (one-loaded w loaded marks own asked))

-- targets that were read of the same
pub read-as : (n m : ℕ) (settled earlier : List (Option ℕ)) (xs ys : List (Option FoundItem)) (targets : List (Option ℕ)) → n ≡ m → settled ≡ earlier → xs ≡ ys
    → AreTargetsRead n settled xs targets → AreTargetsRead m earlier ys targets
read-as n m settled earlier xs ys targets count same found read =
    subst (λ k. AreTargetsRead k earlier ys targets) count
    (subst (λ (ts : List (Option ℕ)). AreTargetsRead n ts ys targets) same
    (subst (λ (fs : List (Option FoundItem)). AreTargetsRead n settled fs targets) found read))

-- what was selected of the groups of these objects, where these are loaded
pub chosen-are : (marks : List Bool) (objects : List ObjectFile) (given : List Bool) (among : List ObjectFile) (g : IndexedGroups) → given ≡ marks → among ≡ objects
    → g.groups ≡ selected (regular_among given among) → ((f : ℕ) → index_at g.indices f ≡ index_of (regular_among given among) f) → AreGroupsOf marks objects g
chosen-are marks objects given among g given_is objects_are groups indices =
    let same : regular_among given among ≡ regular_among marks objects =
    ap (λ (ms : List Bool). regular_among ms among) given_is ∙ ap (λ (os : List ObjectFile). regular_among marks os) objects_are in
    record {
      groups = groups ∙ ap (λ (os : List (ℕ × ObjectFile)). selected os) same;
      indices = λ f. indices f ∙ ap (λ (os : List (ℕ × ObjectFile)). index_of os f) same;
    }

-- what was selected of the groups of these loaded objects is that of as many
pub groups-are : (w : Stage) (marks loaded given : List Bool) (objects : List ObjectFile) (g : IndexedGroups) → IsLoaded w loaded → IsLoaded w marks → given ≡ loaded → objects ≡ w.objects
    → g.groups ≡ selected (regular_among given objects) → ((f : ℕ) → index_at g.indices f ≡ index_of (regular_among given objects) f) → AreGroupsOf marks w.objects g
groups-are w marks loaded given objects g own asked given_is objects_are groups indices =
    chosen-are marks w.objects given objects g (given_is ∙ one-loaded w loaded marks own asked) objects_are groups indices

-- how strongly symbols bind by what was selected
pub strengths-are : (w : Stage) (loaded given : List Bool) (symbols : List Symbol) (g : IndexedGroups) (strengths : List SymbolStrength) → AreGroupsOf loaded w.objects g → given ≡ loaded → symbols ≡ w.symbols
    → strengths ≡ map (λ x. surviving_origin given (discarded_in g) x.origin) symbols → strengths ≡ surviving_strengths w loaded (discarded_groups w loaded)
strengths-are w loaded given symbols g strengths are given_is symbols_are is =
    is ∙ (ap (λ (ms : List Bool). map (λ (x : Symbol). surviving_origin ms (discarded_in g) x.origin) symbols) given_is
    ∙ (ap (λ (xs : List Symbol). map (λ (x : Symbol). surviving_origin loaded (discarded_in g) x.origin) xs) symbols_are ∙ same-strengths w loaded g are))

-- without symbols of the linker the symbols are those of the files
pub all-named : {P : Type 0} (db : Database P) → db.mapping.files.added ≡ [] → length (symbol_names db) ≡ length (symbols_in db.mapping.files.groups)
all-named db none =
    ap (λ (added : List Bytes). length (map (λ (x : Symbol). x.name) (symbols_in db.mapping.files.groups) ++ added)) none
    ∙ (ap length (append-nil (map (λ (x : Symbol). x.name) (symbols_in db.mapping.files.groups))) ∙ length-map (symbols_in db.mapping.files.groups) (λ (x : Symbol). x.name))

-- of a selection of which all is known, it is known what is loaded
pub loaded-of : {P : Type 0} (platform : PlatformRules) (demangle : Bytes → Bytes) (db : Database P) (known : Known) (l : Selection) → IsSelection platform demangle db known l → IsLoadedSelection platform demangle db known l
loaded-of platform demangle db known l is = record { stage = is.stage; marks = is.marks; targets = is.targets }

-- a selection of which a database tells, as a pass over its symbols looks it up
pub selection-of : {P : Type 0} (platform : PlatformRules) (demangle : Bytes → Bytes) (db : Database P) (known : Known) (l : Selection) (symbols : List Symbol) (targets : List (Option ℕ))
    → IsLoadedSelection platform demangle db known l → symbols ≡ symbols_in db.mapping.files.groups → targets ≡ known.targets → IsSelectionOf symbols (mapping_of db.mapping) targets l
selection-of platform demangle db known l symbols targets is symbols_are targets_are = record {
  symbols_are = is.stage.symbols ∙ sym symbols_are;
  names_are = λ name. sym (is.stage.names name);
  targets_are = is.targets ∙ sym targets_are;
}

-- what was found of loaded objects is known of a selection of as many
pub is-loaded-selection : {P : Type 0} (platform : PlatformRules) (demangle : Bytes → Bytes) (db : Database P) (w : Stage) (marks loaded : List Bool) (targets : List (Option ℕ)) (strengths : List SymbolStrength) (known : Known)
    → IsAtStage platform demangle db w → IsLoaded w loaded → IsLoaded w marks → targets ≡ each_from (loaded_target w loaded) 0 w.symbols → known ≡ known_with loaded targets strengths
    → IsLoadedSelection platform demangle db known (selection_of w marks)
is-loaded-selection platform demangle db w marks loaded targets strengths known at own asked targets_are is =
    let same = one-loaded w loaded marks own asked in
    record {
      stage = at;
      marks = sym same ∙ ap (λ (k : Known). k.marks) (sym is);
      targets = ap (λ (ms : List Bool). each_from (loaded_target w ms) 0 w.symbols) (sym same) ∙ (sym targets_are ∙ ap (λ (k : Known). k.targets) (sym is));
    }

-- where there is an object, no object is no cause
pub not-empty : (w : Stage) (count : ℕ) → count ≡ length w.objects → 1 ≤ count → empty_refusal w ≡ None
not-empty w count is some = by w.objects (sym is)
  where
    by : (objects : List ObjectFile) → length objects ≡ count → (if is_empty objects then Some NoInputs else None) ≡ None
    by [] none = absurd (omega (arith, none, some))
    by (o ∷ os) more = refl

-- what is known of a selection, over a database that differs in its table alone
pub is-selection : {P : Type 0} (platform : PlatformRules) (demangle : Bytes → Bytes) (old new : Database P) (w : Stage) (marks : List Bool) (known : Known)
    → new.mapping ≡ old.mapping → new.options ≡ old.options → new.rules ≡ old.rules → IsAtStage platform demangle old w → known ≡ known_of (selection_of w marks)
    → IsSelection platform demangle new known (selection_of w marks)
is-selection {P} platform demangle old new w marks known mapping options rules at is = record {
  stage = record {
    objects = at.objects ∙ ap (λ (m : Mapped P). objects_in m.files.groups) (sym mapping);
    scripts = at.scripts ∙ ap (λ (m : Mapped P). scripts_in m.files.groups) (sym mapping);
    symbols = at.symbols ∙ ap (λ (m : Mapped P). symbols_in m.files.groups) (sym mapping);
    added = ap (λ (m : Mapped P). m.files.added) mapping ∙ at.added;
    options = at.options ∙ sym options;
    rules = subst (λ (r : ReadTexts). AreRulesOf platform demangle r w.rules) (sym rules) at.rules;
    lists = subst (λ (m : Mapped P). AreListed w.symbols m) (sym mapping) at.lists;
    names = λ name. ap (λ (m : Mapped P). mapping_of m name) mapping ∙ at.names name;
  };
  marks = sym (ap (λ (k : Known). k.marks) is);
  targets = sym (ap (λ (k : Known). k.targets) is);
  strengths = sym (ap (λ (k : Known). k.strengths) is);
}

-- a database that differs in its table alone, which has an entry for each symbol
pub is-pointed : {P : Type 0} (old new : Database P) (table : List ℕ) (known : Known) → new ≡ record old { table = table } → length table ≡ length (symbol_names old)
    → AreBelow (length (symbol_names old)) known.targets → length known.strengths ≡ length (symbols_in old.mapping.files.groups) → IsPointed old new known
is-pointed {P} old new table known is whole targets strengths =
    subst (λ (db : Database P). IsPointed old db known) (sym is) (record { rest = refl; whole = whole; targets = targets; strengths = strengths })

-- behind the last batch, what is known of a selection is all of it, once its groups are chosen and it was computed how strongly symbols bind
pub pointed-is : {P : Type 0} (platform : PlatformRules) (demangle : Bytes → Bytes) (old new : Database P) (w : Stage) (marks given : List Bool) (parts r : Resolving) (known : Known) (symbols : List Symbol) (groups : IndexedGroups) (strengths : List SymbolStrength)
    → parts ≡ r → IsLoadedSelection platform demangle old r.known (selection_of w marks) → AreGroupsOf marks w.objects groups
    → given ≡ parts.known.marks → symbols ≡ symbols_in old.mapping.files.groups → strengths ≡ map (λ x. surviving_origin given (discarded_in groups) x.origin) symbols
    → known ≡ record parts.known { strengths = strengths } → new.mapping ≡ old.mapping → new.options ≡ old.options → new.rules ≡ old.rules
    → IsSelection platform demangle new known (selection_of w marks)
pointed-is platform demangle old new w marks given parts r known symbols groups strengths same at are given_is symbols_are is known_is mapping options rules =
    let own : parts.known.marks ≡ marks = ap (λ (x : Resolving). x.known.marks) same ∙ sym at.marks in
    let targets : parts.known.targets ≡ (selection_of w marks).targets = ap (λ (x : Resolving). x.known.targets) same ∙ sym at.targets in
    let binds : strengths ≡ (selection_of w marks).strengths = strengths-are w marks given symbols groups strengths are (given_is ∙ own) (symbols_are ∙ sym at.stage.symbols) is in
    is-selection platform demangle old new w marks known mapping options rules at.stage (known_is ∙ (λ i. record { marks = own i; targets = targets i; strengths = binds i }))

-- a stage before which a resolver knew something, by what its parts know
pub opened : {P : Type 0} {platform : PlatformRules} {demangle : Bytes → Bytes} {db : Database P} {w : Stage} {parts now : Resolving} → parts ≡ now → IsNextStage platform demangle db now.known w → IsNextStage platform demangle db parts.known w
opened {platform = platform} {demangle = demangle} {db = db} {w = w} same at = subst (λ (r : Resolving). IsNextStage platform demangle db r.known w) (sym same) at

-- what follows of what a call gives
pub ok-into : {A E : Type 0} (r : Result A E) (P Q : A → Type 0) → ((x : A) → P x → Q x) → IfOk r P → IfOk r Q
ok-into (Ok x) P Q into held = into x held
ok-into (Err e) P Q into held = tt
