-- The groups of a batch follow those of the batches before it.
use Rattle.std.proofs.Common.{◌≡◌, ℕ, zero, suc, ◌+◌, ◌*◌, ◌^◌, ◌<◌, ◌≤◌, eqb, false, Option, None, List, [], ◌∷◌, ◌++◌, length, map, Some, slice_get, refl, sym, ap, ◌∙◌, subst, arith, length-append}
use Rattle.std.specs.List.{flat_map, AllByRecursion}
use Rattle.std.specs.Prelude.{option_map}
use Rattle.std.proofs.lemmas.Bool.{ne_eqb}
use Rattle.std.proofs.lemmas.List.{append-nil, length-map}
use Rattle.std.proofs.lemmas.Option.{same_Some}
use Rattle.link_ids.specs.FilePlace.{FilePlace}
use Rattle.link_input.specs.declared.options.Options.{Options}
use Rattle.link_input.specs.ObjectFile.{ObjectFile}
use Rattle.link_input.specs.InputFiles.{InputFile, object, linker_script, stub_input, symbol_count, section_count, Batch, batch_files, input_files}
use Rattle.link_input.specs.SequencedFiles.{SequencedFile, sequenced, sequenced_files}
use Rattle.link_input.specs.Limits.{AreWithinLimits, Counts, Excess, counts_of, total}
use Rattle.link_input_groups.specs.declared.counting.FileCounts.{FileCounts}
use Rattle.link_input_groups.specs.declared.group.Group.{Group}
use Rattle.link_input_groups.specs.declared.sequencing.NextIds.{NextIds}
use Rattle.link_input_groups.specs.Asked.{AllCanBeAsked}
use Rattle.link_input_groups.specs.FileCounts.{AreSmall, counts_in, counts_with, too_many}
use Rattle.link_input_groups.specs.FileIds.{HavePlaces}
use Rattle.link_input_groups.specs.Groups.{files_of}
use Rattle.link_input_groups.specs.Grouping.{first_groups, prelude_group}
use Rattle.link_input_groups.specs.GroupsAdded.{group_files, one_group}
use Rattle.link_input_groups.specs.Held.{AreGroupsOf, HoldFiles}
use Rattle.link_input_groups.proofs.AddsLemmas.{one_group-some, sequenced-append}
use Rattle.link_input_groups.proofs.Asking.{all-asked, all-join, some-added, some-asked}
use Rattle.link_input_groups.proofs.FileTotals.{counts-more, counts-sequenced, file_totals, files-more, objects-of, small-within}
use Rattle.link_input_groups.proofs.Whole.{Added, added_lists, all-joined, count-cuts}

-- the prelude's file has the first id
places-of-first : (g k : ℕ) (ids : List FilePlace) (id : FilePlace) → slice_get ((record { group = 0; file = 0 } ∷ []) ∷ []) g ≡ Some ids → slice_get ids k ≡ Some id → id ≡ record { group = g; file = k }
places-of-first zero k ids id at at_id =
    let F : List FilePlace → Type 0 = λ l. slice_get l k ≡ Some id in
    only k id (subst F (sym (same_Some (record { group = 0; file = 0 } ∷ []) ids at)) at_id)
  where
    only : (k : ℕ) (id : FilePlace) → slice_get (record { group = 0; file = 0 } ∷ []) k ≡ Some id → id ≡ record { group = 0; file = k }
    only zero id at = sym (same_Some (record { group = 0; file = 0 }) id at)
    only (suc k) id at = cc
places-of-first (suc g) k ids id at at_id = cc

-- what a batch begins behind: the groups of the batches before it, or the prelude's
pub record Begins {P : Type 0} (options : Options) (batches : List Batch) (start : List (Group P)) : Type 0 where
  pub files : flat_map files_of start ≡ sequenced_files options batches
  pub places : HavePlaces start
  pub some : AllByRecursion (λ l. 0 < length l) (map group_files start)
  pub few : length start ≤ 1 + ((counts_of options batches).objects + 2 * length batches)

begins-first : (P : Type 0) (options : Options) → Begins {P = P} options [] (prelude_group options ∷ [])
begins-first P options = record { files = refl; places = places-of-first; some = (omega arith, tt); few = omega arith }

begins-more : {P : Type 0} (options : Options) (batches : List Batch) (held : List (Group P)) → HoldFiles options batches held → Begins options batches (held ++ first_groups options held)
begins-more options batches [] are = absurd (none are.files)
  where
    none : [] ≡ sequenced_files options batches → ⊥
    none is = cc
begins-more {P} options batches (g ∷ gs) are =
    let F : List (Group P) → Type 0 = λ l. Begins options batches l in
    subst F (sym (append-nil (g ∷ gs))) (record { files = are.files; places = are.places; some = some-asked (g ∷ gs) are.asked; few = are.few })

pub begins : {P : Type 0} (options : Options) (batches : List Batch) (held : List (Group P)) → AreGroupsOf options batches held → Begins options batches (held ++ first_groups options held)
begins {P} options [] held are =
    let F : List (Group P) → Type 0 = λ l. Begins options [] (l ++ first_groups options l) in
    subst F (sym are) (begins-first P options)
begins options (b ∷ bs) held are = begins-more options (b ∷ bs) held are

-- what is counted there
pub counts-begun : {P : Type 0} (options : Options) (batches : List Batch) (start : List (Group P)) → Begins options batches start → counts_in (flat_map files_of start) ≡ file_totals (input_files options batches)
counts-begun options batches start begin = ap counts_in begin.files ∙ counts-sequenced 0 0 (input_files options batches)

-- groups of a batch more
hold-more : {P : Type 0} (options : Options) (batches : List Batch) (batch : Batch) (groups : List (Group P)) → HoldFiles options (batches ++ batch ∷ []) groups → AreGroupsOf options (batches ++ batch ∷ []) groups
hold-more options [] batch groups hold = hold
hold-more options (b ∷ bs) batch groups hold = hold

-- the files with the ids behind those of the batches before
files-follow : {P : Type 0} (options : Options) (batches : List Batch) (batch : Batch) (held groups : List (Group P)) (first : NextIds) (cuts : List (List ObjectFile)) → Begins options batches (held ++ first_groups options held) → first ≡ record { symbols = total symbol_count (input_files options batches); sections = total section_count (input_files options batches) } → Added options held batch first cuts groups → flat_map (λ g. g) cuts ≡ batch.objects → flat_map files_of (held ++ groups) ≡ sequenced_files options (batches ++ batch ∷ [])
files-follow options batches batch held groups first cuts begin first_is added joined =
    let before = input_files options batches in
    let new = batch_files batch in
    let symbols : first.symbols ≡ 0 + total symbol_count before = omega (arith, ap (λ (n : NextIds). n.symbols) first_is) in
    let sections : first.sections ≡ 0 + total section_count before = omega (arith, ap (λ (n : NextIds). n.sections) first_is) in
    let whole : sequenced 0 0 (before ++ new) ≡ sequenced 0 0 before ++ sequenced first.symbols first.sections new = rw (symbols, sections) (sequenced-append 0 0 before new) in
    added.adds.files
    ∙ both _ _ _ _ begin.files (ap (sequenced first.symbols first.sections) (all-joined batch cuts joined))
    ∙ sym whole
    ∙ ap (sequenced 0 0) (sym (files-more options batches batch))
  where
    both : (a b c d : List SequencedFile) → a ≡ b → c ≡ d → a ++ c ≡ b ++ d
    both a b c d p q = cc

-- at most one group
one-length : {A : Type 0} (xs : List A) → length (one_group xs) ≤ 1
one-length [] = omega arith
one-length (x ∷ xs) =
    let some : eqb (length (x ∷ xs)) 0 ≡ false = ne_eqb (length (x ∷ xs)) 0 (λ e. omega (arith, e)) in
    rw (one_group-some (x ∷ xs) some) (omega arith)

-- how many groups there are
few-follow : {P : Type 0} (options : Options) (batches : List Batch) (batch : Batch) (held groups : List (Group P)) (first : NextIds) (cuts : List (List ObjectFile)) → Begins options batches (held ++ first_groups options held) → Added options held batch first cuts groups → flat_map (λ g. g) cuts ≡ batch.objects → AllByRecursion (λ g. 0 < length g) cuts → (counts_of options (batches ++ batch ∷ [])).objects ≡ (counts_of options batches).objects + length batch.objects → length (held ++ groups) ≤ 1 + ((counts_of options (batches ++ batch ∷ [])).objects + 2 * length (batches ++ batch ∷ []))
few-follow options batches batch held groups first cuts begin added joined some objects =
    let a = map (λ cut. map object cut) cuts in
    let b = one_group (map linker_script batch.scripts) in
    let c = one_group (map stub_input batch.stubs) in
    let start = held ++ first_groups options held in
    let lists : length (map group_files (held ++ groups)) ≡ length (map group_files start) + length (a ++ b ++ c) = ap length added.adds.groups ∙ length-append (map group_files start) (a ++ b ++ c) in
    let new : length (a ++ b ++ c) ≤ length cuts + 2 = omega (arith, length-append (a ++ b) c, length-append a b, length-map cuts (λ cut. map object cut), one-length (map linker_script batch.scripts), one-length (map stub_input batch.stubs)) in
    let cut : length cuts ≤ length batch.objects = omega (arith, count-cuts cuts some, ap length joined) in
    let more : length (batches ++ batch ∷ []) ≡ length batches + 1 = length-append batches (batch ∷ []) in
    omega (arith, lists, new, cut, more, objects, begin.few, length-map (held ++ groups) group_files, length-map start group_files)

-- the groups of a batch, behind those of the batches before it
pub follow : {P : Type 0} (options : Options) (batches : List Batch) (batch : Batch) (held groups : List (Group P)) (before : FileCounts) (first : NextIds) (cuts : List (List ObjectFile)) → AreGroupsOf options batches held → before ≡ counts_in (flat_map files_of (held ++ first_groups options held)) → first ≡ record { symbols = before.symbols; sections = before.sections } → Added options held batch first cuts groups → flat_map (λ g. g) cuts ≡ batch.objects → AllByRecursion (λ g. 0 < length g) cuts → AreWithinLimits (counts_with options before batch) → AreGroupsOf options (batches ++ batch ∷ []) (held ++ groups)
follow options batches batch held groups before first cuts are counted first_is added joined some within =
    let begin = begins options batches held are in
    let start = held ++ first_groups options held in
    let before_is : before ≡ file_totals (input_files options batches) = counted ∙ counts-begun options batches start begin in
    let first_are : first ≡ record { symbols = total symbol_count (input_files options batches); sections = total section_count (input_files options batches) } = first_is ∙ ap (λ (c : FileCounts). record { symbols = c.symbols; sections = c.sections }) before_is in
    let counts : counts_with options before batch ≡ counts_of options (batches ++ batch ∷ []) = ap (λ (c : FileCounts). counts_with options c batch) before_is ∙ counts-more options batches batch in
    let limits : AreWithinLimits (counts_of options (batches ++ batch ∷ [])) = subst (λ (c : Counts). AreWithinLimits c) counts within in
    let objects : (counts_of options (batches ++ batch ∷ [])).objects ≡ (counts_of options batches).objects + length batch.objects = sym (ap (λ (c : Counts). c.objects) (counts-more options batches batch)) ∙ ap (λ n. n + length batch.objects) (objects-of options batches) in
    let files = files-follow options batches batch held groups first cuts begin first_are added joined in
    let F : List (List InputFile) → Type 0 = λ l. AllByRecursion (λ l. 0 < length l) l in
    let filled : AllByRecursion (λ l. 0 < length l) (map group_files (held ++ groups)) = subst F (sym added.adds.groups) (all-join (λ l. 0 < length l) (map group_files start) (added_lists batch cuts) begin.some (some-added batch cuts some)) in
    let fits : total symbol_count (input_files options (batches ++ batch ∷ [])) < 2 ^ 32 = omega (arith, limits.symbols) in
    hold-more options batches batch (held ++ groups) (record {
      files = files;
      places = added.adds.places begin.places;
      asked = all-asked (input_files options (batches ++ batch ∷ [])) (held ++ groups) files filled fits;
      within = limits;
      few = few-follow options batches batch held groups first cuts begin added joined some objects;
    })

-- at most one group comes first
pub first-length : {P : Type 0} (options : Options) (held : List (Group P)) → length (first_groups options held) ≤ 1
first-length options [] = omega arith
first-length options (g ∷ gs) = omega arith

-- groups of earlier batches hold few files
pub small-held : {P : Type 0} (options : Options) (batches : List Batch) (held : List (Group P)) → AreGroupsOf options batches held → AreSmall (counts_in (flat_map files_of held))
small-held {P} options [] held are =
    let F : List (Group P) → Type 0 = λ l. AreSmall (counts_in (flat_map files_of l)) in
    subst F (sym are) (record { objects = omega arith; scripts = omega arith; stubs = omega arith; sections = omega arith; symbols = omega arith })
small-held options (b ∷ bs) held are =
    let is : counts_in (flat_map files_of held) ≡ file_totals (input_files options (b ∷ bs)) = ap counts_in are.files ∙ counts-sequenced 0 0 (input_files options (b ∷ bs)) in
    subst (λ (c : FileCounts). AreSmall c) (sym is) (small-within options (b ∷ bs) are.within)

-- groups of earlier batches can be asked
pub asked-held : {P : Type 0} (options : Options) (batches : List Batch) (held : List (Group P)) → AreGroupsOf options batches held → AllCanBeAsked held
asked-held {P} options [] held are =
    let F : List (Group P) → Type 0 = λ l. AllCanBeAsked l in
    subst F (sym are) tt
asked-held options (b ∷ bs) held are = are.asked

-- the ids of their files begin at 0 and follow one another
pub ids-held : {P : Type 0} (options : Options) (batches : List Batch) (held : List (Group P)) → AreGroupsOf options batches held → (files : List InputFile) × (flat_map files_of held ≡ sequenced 0 0 files)
ids-held options [] held are = ([], ap (flat_map files_of) are)
ids-held options (b ∷ bs) held are = (input_files options (b ∷ bs), are.files)

-- what is counted of the link with a batch more
pub counts-follow : {P : Type 0} (options : Options) (batches : List Batch) (batch : Batch) (held : List (Group P)) (before : FileCounts) → AreGroupsOf options batches held → before ≡ counts_in (flat_map files_of (held ++ first_groups options held)) → counts_with options before batch ≡ counts_of options (batches ++ batch ∷ [])
counts-follow options batches batch held before are counted =
    let start = held ++ first_groups options held in
    let before_is : before ≡ file_totals (input_files options batches) = counted ∙ counts-begun options batches start (begins options batches held are) in
    ap (λ (c : FileCounts). counts_with options c batch) before_is ∙ counts-more options batches batch

-- there is room for the groups of a batch
pub room-held : {P : Type 0} (options : Options) (batches : List Batch) (batch : Batch) (held : List (Group P)) (before : FileCounts) → AreGroupsOf options batches held → length batches < 256 → before ≡ counts_in (flat_map files_of (held ++ first_groups options held)) → AreWithinLimits (counts_with options before batch) → length held + length batch.objects + 3 ≤ 2 ^ 24
room-held options batches batch held before are few counted within =
    let begin = begins options batches held are in
    let start = held ++ first_groups options held in
    let before_is : before ≡ file_totals (input_files options batches) = counted ∙ counts-begun options batches start begin in
    let objects : before.objects ≡ (counts_of options batches).objects = ap (λ (c : FileCounts). c.objects) before_is ∙ objects-of options batches in
    omega (arith, few, objects, begin.few, within.objects, length-append held (first_groups options held))

-- nothing is refused where there is no excess
pub none-refused : (e : Option Excess) → option_map too_many e ≡ None → e ≡ None
none-refused None is = refl
none-refused (Some x) is = cc
