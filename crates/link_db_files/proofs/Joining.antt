-- What the groups of batches hold, and groups that follow them.
use Rattle.std.proofs.Common.{◌≡◌, ◌+◌, ◌++◌, ◌∙◌, ℕ, List, [], ◌∷◌, true, false, length, map, Option, Some, None, refl, ap, subst, arith}
use Rattle.std.specs.Prelude.{not}
use Rattle.std.specs.List.{filter_map, flat_map, AllByRecursion}
use Rattle.std.proofs.lemmas.List.{append-nil, map-append}
use Rattle.std.proofs.lemmas.List.Concat.{flat_map-append}
use Rattle.std.proofs.lemmas.List.Elements.{filter_map-append}
use Rattle.link_input.specs.declared.options.Options.{Options}
use Rattle.link_input.specs.InputFiles.{Batch, InputFile, object, linker_script, batch_files, input_files, object_count, section_count, stub_input, stub_symbol, symbol_count}
use Rattle.link_input.specs.declared.world.StubLibrary.{StubLibrary}
use Rattle.link_input.specs.Limits.{total}
use Rattle.link_input.specs.SequencedFiles.{SequencedFile, sequenced}
use Rattle.link_input.specs.Symbols.{symbols_of}
use Rattle.link_input_groups.specs.declared.group.Group.{Group}
use Rattle.link_input_groups.specs.Asked.{HasIdsForAll}
use Rattle.link_input_groups.specs.Groups.{RunsFrom, files_of}
use Rattle.link_input_groups.specs.Held.{AreGroupsOf}
use Rattle.link_input_groups.proofs.AddsLemmas.{file-sequenced}
use Rattle.link_db_files.specs.GroupFiles.{AreGroupsOfLink, symbols_in}
use Rattle.link_db_files.specs.Inputs.{names_of, object_of, objects_in, script_of, scripts_in, stub_of, stubs_in}
use Rattle.link_db_files.specs.Numbered.{spans_of}
use Rattle.link_db_files.proofs.Batches.{all-left, of-link}
use Rattle.link_db_files.proofs.ObjectCounts.{objects-counted}
use Rattle.link_db_files.proofs.Numbered.{bare, id_count, runs-split, symbols-append, tabled-count}

-- no groups have no symbol
pub symbols-of-none : {P : Type 0} (options : Options) (groups : List (Group P)) → AreGroupsOf options [] groups → symbols_in groups ≡ []
symbols-of-none {P} options groups none = ap (λ (gs : List (Group P)). symbols_in gs) none

-- the symbols of the groups of batches are those of the batches' files
pub symbols-of-batches : {P : Type 0} (options : Options) (b : Batch) (bs : List Batch) (groups : List (Group P)) → AreGroupsOf options (b ∷ bs) groups → symbols_in groups ≡ symbols_of 0 (input_files options (b ∷ bs))
symbols-of-batches options b bs groups h =
    ap (λ (l : List SequencedFile). symbols_of 0 (bare l)) h.files ∙ ap (symbols_of 0) (file-sequenced 0 0 (input_files options (b ∷ bs)))

-- what is picked of files with ids is what is picked of the files
picked-sequenced : {X : Type 0} (pick : InputFile → Option X) (s c : ℕ) (fs : List InputFile) → filter_map (λ (f : SequencedFile). pick f.file) (sequenced s c fs) ≡ filter_map pick fs
picked-sequenced pick s c [] = refl
picked-sequenced pick s c (f ∷ fs) = rw (picked-sequenced pick (s + symbol_count f) (c + section_count f) fs) refl

-- what is picked of the files of batches, where it is known what is picked of each batch
picked-batches : {X : Type 0} (pick : InputFile → Option X) (own : Batch → List X) → ((b : Batch) → filter_map pick (batch_files b) ≡ own b) → (bs : List Batch) → filter_map pick (flat_map batch_files bs) ≡ flat_map own bs
picked-batches pick own each [] = refl
picked-batches pick own each (b ∷ bs) =
    filter_map-append pick (batch_files b) (flat_map batch_files bs) ∙ (ap (λ l. l ++ filter_map pick (flat_map batch_files bs)) (each b) ∙ ap (λ l. own b ++ l) (picked-batches pick own each bs))

-- of files of another kind nothing is picked
picked-none : {A X : Type 0} (pick : InputFile → Option X) (file : A → InputFile) → ((a : A) → pick (file a) ≡ None) → (xs : List A) → filter_map pick (map file xs) ≡ []
picked-none pick file none [] = refl
picked-none pick file none (x ∷ xs) = rw (none x) (picked-none pick file none xs)

-- of files of the kind all are picked
picked-all : {X : Type 0} (pick : InputFile → Option X) (file : X → InputFile) → ((x : X) → pick (file x) ≡ Some x) → (xs : List X) → filter_map pick (map file xs) ≡ xs
picked-all pick file all [] = refl
picked-all pick file all (x ∷ xs) = rw (all x) (ap (λ l. x ∷ l) (picked-all pick file all xs))

-- what is picked of the three kinds of a batch
picked-parts : {X : Type 0} (pick : InputFile → Option X) (b : Batch) (objects scripts stubs : List X) → filter_map pick (map object b.objects) ≡ objects → filter_map pick (map linker_script b.scripts) ≡ scripts → filter_map pick (map stub_input b.stubs) ≡ stubs
    → filter_map pick (batch_files b) ≡ objects ++ (scripts ++ stubs)
picked-parts pick b objects scripts stubs of_objects of_scripts of_stubs =
    let rest = filter_map-append pick (map linker_script b.scripts) (map stub_input b.stubs) in
    rw (filter_map-append pick (map object b.objects) (map linker_script b.scripts ++ map stub_input b.stubs), rest, of_objects, of_scripts, of_stubs) refl

-- the objects of a batch
objects-of-batch : (b : Batch) → filter_map object_of (batch_files b) ≡ b.objects
objects-of-batch b =
    picked-parts object_of b b.objects [] [] (picked-all object_of object (λ o. refl) b.objects) (picked-none object_of linker_script (λ s. refl) b.scripts) (picked-none object_of stub_input (λ s. refl) b.stubs)
    ∙ append-nil b.objects

-- the linker scripts of a batch
scripts-of-batch : (b : Batch) → filter_map script_of (batch_files b) ≡ b.scripts
scripts-of-batch b =
    picked-parts script_of b [] b.scripts [] (picked-none script_of object (λ o. refl) b.objects) (picked-all script_of linker_script (λ s. refl) b.scripts) (picked-none script_of stub_input (λ s. refl) b.stubs)
    ∙ append-nil b.scripts

-- no weak symbol is a strong one
strong-none : (weak : List (List ℕ)) → names_of (λ s. not s.is_weak) (map (stub_symbol true) weak) ≡ []
strong-none [] = refl
strong-none (y ∷ ys) = strong-none ys

-- the strong names of a stub library are told from the weak ones
strong-names : (strong weak : List (List ℕ)) → names_of (λ s. not s.is_weak) (map (stub_symbol false) strong ++ map (stub_symbol true) weak) ≡ strong
strong-names [] weak = strong-none weak
strong-names (x ∷ xs) weak = ap (λ l. x ∷ l) (strong-names xs weak)

-- all weak symbols are weak ones
weak-all : (weak : List (List ℕ)) → names_of (λ s. s.is_weak) (map (stub_symbol true) weak) ≡ weak
weak-all [] = refl
weak-all (y ∷ ys) = ap (λ l. y ∷ l) (weak-all ys)

-- and the weak names from the strong ones
weak-names : (strong weak : List (List ℕ)) → names_of (λ s. s.is_weak) (map (stub_symbol false) strong ++ map (stub_symbol true) weak) ≡ weak
weak-names [] weak = weak-all weak
weak-names (x ∷ xs) weak = weak-names xs weak

-- so the library is told by its file
stub-told : (s : StubLibrary) → stub_of (stub_input s) ≡ Some s
stub-told s =
    let strong = strong-names s.strong s.weak in
    let weak = weak-names s.strong s.weak in
    ap (λ (l : List (List ℕ)). Some (record s { strong = l; weak = names_of (λ x. x.is_weak) (map (stub_symbol false) s.strong ++ map (stub_symbol true) s.weak) })) strong
    ∙ ap (λ (l : List (List ℕ)). Some (record s { weak = l })) weak

-- the stub libraries of a batch
stubs-of-batch : (b : Batch) → filter_map stub_of (batch_files b) ≡ b.stubs
stubs-of-batch b =
    picked-parts stub_of b [] [] b.stubs (picked-none stub_of object (λ o. refl) b.objects) (picked-none stub_of linker_script (λ s. refl) b.scripts) (picked-all stub_of stub_input stub-told b.stubs)

-- what is picked of the groups of batches
picked-groups : {P X : Type 0} (pick : InputFile → Option X) (own : Batch → List X) → ((b : Batch) → filter_map pick (batch_files b) ≡ own b) → ((options : Options) (bs : List Batch) → filter_map pick (input_files options bs) ≡ filter_map pick (flat_map batch_files bs))
    → (options : Options) (batches : List Batch) (groups : List (Group P)) → AreGroupsOf options batches groups → filter_map (λ (f : SequencedFile). pick f.file) (flat_map files_of groups) ≡ flat_map own batches
picked-groups {P} pick own each prelude_none options [] groups none = ap (λ (gs : List (Group P)). filter_map (λ (f : SequencedFile). pick f.file) (flat_map files_of gs)) none
picked-groups pick own each prelude_none options (b ∷ bs) groups h =
    ap (λ (l : List SequencedFile). filter_map (λ (f : SequencedFile). pick f.file) l) h.files
    ∙ (picked-sequenced pick 0 0 (input_files options (b ∷ bs)) ∙ (prelude_none options (b ∷ bs) ∙ picked-batches pick own each (b ∷ bs)))

-- the objects of the groups of batches are those of the batches
pub objects-of-batches : {P : Type 0} (options : Options) (batches : List Batch) (groups : List (Group P)) → AreGroupsOf options batches groups → objects_in groups ≡ flat_map (λ b. b.objects) batches
objects-of-batches options batches groups h = picked-groups object_of (λ (b : Batch). b.objects) objects-of-batch (λ o bs. refl) options batches groups h

-- and so are the linker scripts
pub scripts-of-batches : {P : Type 0} (options : Options) (batches : List Batch) (groups : List (Group P)) → AreGroupsOf options batches groups → scripts_in groups ≡ flat_map (λ b. b.scripts) batches
scripts-of-batches options batches groups h = picked-groups script_of (λ (b : Batch). b.scripts) scripts-of-batch (λ o bs. refl) options batches groups h

-- and the stub libraries
pub stubs-of-batches : {P : Type 0} (options : Options) (batches : List Batch) (groups : List (Group P)) → AreGroupsOf options batches groups → stubs_in groups ≡ flat_map (λ b. b.stubs) batches
stubs-of-batches options batches groups h = picked-groups stub_of (λ (b : Batch). b.stubs) stubs-of-batch (λ o bs. refl) options batches groups h

-- the symbols of groups and of others that follow them
pub symbols-join : {P : Type 0} (old new : List (Group P)) → symbols_in (old ++ new) ≡ symbols_in old ++ symbols_of (length (objects_in old)) (bare (flat_map files_of new))
symbols-join {P} old new =
    let fs = flat_map (λ (g : Group P). files_of g) old in
    let more = flat_map (λ (g : Group P). files_of g) new in
    let count : 0 + total object_count (bare fs) ≡ length (objects_in old) = omega (arith, objects-counted fs) in
    ap (λ (l : List SequencedFile). symbols_of 0 (bare l)) (flat_map-append files_of old new)
    ∙ (ap (symbols_of 0) (map-append (λ (f : SequencedFile). f.file) fs more)
    ∙ (symbols-append 0 (bare fs) (bare more) ∙ ap (λ n. symbols_of 0 (bare fs) ++ symbols_of n (bare more)) count))

-- all are of the second part
all-right : {A : Type 0} (Q : A → Type 0) (xs ys : List A) → AllByRecursion Q (xs ++ ys) → AllByRecursion Q ys
all-right Q [] ys all = all
all-right Q (x ∷ xs) ys all = all-right Q xs ys all.1

-- what is true of the files of groups that follow others of a link
pub record FollowOn {P : Type 0} (old new : List (Group P)) : Type 0 where
  pub runs : RunsFrom (length (symbols_in old)) (spans_of (flat_map files_of new))
  pub tables : AllByRecursion HasIdsForAll (flat_map files_of new)

-- their ids run on from those of the symbols before, and each has one for each of its symbols
pub follow-on : {P : Type 0} (old new : List (Group P)) → AreGroupsOfLink (old ++ new) → FollowOn old new
follow-on {P} old new link =
    let fs = flat_map (λ (g : Group P). files_of g) old in
    let more = flat_map (λ (g : Group P). files_of g) new in
    let all = of-link (old ++ new) link in
    let joined = flat_map-append (λ (g : Group P). files_of g) old new in
    let runs = runs-split 0 fs more (subst (λ (l : List SequencedFile). RunsFrom 0 (spans_of l)) joined all.runs) in
    let tables : AllByRecursion HasIdsForAll (fs ++ more) = subst (λ (l : List SequencedFile). AllByRecursion HasIdsForAll l) joined all.tables in
    let next : 0 + id_count fs ≡ length (symbols_in old) = omega (arith, tabled-count 0 fs (all-left HasIdsForAll fs more tables)) in
    record { runs = subst (λ n. RunsFrom n (spans_of more)) next runs.1; tables = all-right HasIdsForAll fs more tables }
