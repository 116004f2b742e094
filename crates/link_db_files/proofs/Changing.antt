-- The last group, of symbols that the linker adds, gets an id more or gives one back.
use Rattle.std.proofs.Common.{◌≡◌, ◌+◌, ◌-◌, ◌<◌, ◌≤◌, ◌^◌, ◌++◌, ◌∙◌, ℕ, List, [], ◌∷◌, length, map, take, get_or, refl, sym, ap, subst, arith, length-append}
use Rattle.std.specs.Prelude.{Some, slice_get, slice_set}
use Rattle.std.proofs.Math.Seq.{get_or-append_seam, set-append_seam, take-append_seam}
use Rattle.std.specs.List.{flat_map, AllByRecursion}
use Rattle.std.proofs.lemmas.List.{append_assoc, append-nil, map-append, same_from_push}
use Rattle.std.proofs.lemmas.List.Concat.{flat_map-append}
use Rattle.link_ids.specs.FilePlace.{FilePlace}
use Rattle.link_ids.specs.Span.{Span}
use Rattle.link_input.specs.InputFiles.{InputFile, synthetic, symbol_count}
use Rattle.link_input.specs.SequencedFiles.{SequencedFile}
use Rattle.link_input.specs.Symbols.{Symbol}
use Rattle.link_input_groups.specs.declared.group.Group.{Group}
use Rattle.link_input_groups.specs.declared.group.Group.TheVariants as group
use Rattle.link_input_groups.specs.declared.sequenced.SyntheticSymbols.{SyntheticSymbols}
use Rattle.link_input_groups.specs.Asked.{AreIdsOf, HasIdsForAll}
use Rattle.link_input_groups.specs.Groups.{RunsFrom, file_ids, files_of, synthetic_file}
use Rattle.link_db_files.specs.declared.starts.FileStart.{FileStart}
use Rattle.link_db_files.specs.Adding.{EndsInSynthetic, HadBefore, HasRoom, grown, with_id, with_len, with_symbol}
use Rattle.link_db_files.specs.GroupFiles.{symbols_in}
use Rattle.link_db_files.specs.HeldFiles.{HeldFiles, names_in}
use Rattle.link_db_files.specs.Numbered.{AreHeld, AreNumbered, HasNoTable, spans_of}
use Rattle.link_db_files.specs.Starts.{group_starts}
use Rattle.link_db_files.proofs.Batches.{all-left}
use Rattle.link_db_files.proofs.Growing.{all-join, runs-join, symbols-more}
use Rattle.link_db_files.proofs.Lookup.{ids-count, names-count}
use Rattle.link_db_files.proofs.Numbered.{id_count, id-count-append, runs-split}

-- a list is empty, or it has a last element
by-last : {A B : Type 0} (xs : List A) → (xs ≡ [] → B) → ((front : List A) (last : A) → xs ≡ front ++ last ∷ [] → B) → B
by-last [] none some = none refl
by-last (x ∷ xs) none some = by-last xs (λ e. some [] x (ap (λ l. x ∷ l) e)) (λ front last e. some (x ∷ front) last (ap (λ l. x ∷ l) e))

-- the last file, one without a table, gets another number of ids
pub numbered-last : (pre : List SequencedFile) (f g : SequencedFile) (n m : ℕ) → AreNumbered (pre ++ f ∷ []) n → symbol_count f.file ≡ 0 → g.file ≡ synthetic → g.symbols.start ≡ f.symbols.start → n + g.symbols.len ≡ m + f.symbols.len → AreNumbered (pre ++ g ∷ []) m
numbered-last pre f g n m h none kind start more =
    let parts = runs-split 0 pre (f ∷ []) h.runs in
    let own : HasNoTable g = subst (λ (k : InputFile). (symbol_count k ≡ 0) × AreIdsOf k g.symbols.len) (sym kind) (refl, tt) in
    let runs = runs-join 0 pre (g ∷ []) parts.0 (start ∙ parts.1.0, tt) in
    by-last h.behind
    (λ e.
    let all : pre ++ f ∷ [] ≡ h.tabled = h.joined ∙ (ap (λ l. h.tabled ++ l) e ∙ append-nil h.tabled) in
    let tables : AllByRecursion HasIdsForAll (pre ++ f ∷ []) = subst (λ (l : List SequencedFile). AllByRecursion HasIdsForAll l) (sym all) h.tables in
    let no_ids : f.symbols.len ≡ 0 = (all-right pre tables).0 ∙ none in
    let no_names : n ≡ 0 = sym h.count ∙ ap id_count e in
    record { tabled = pre; behind = g ∷ []; joined = refl; tables = all-left HasIdsForAll pre (f ∷ []) tables; others = (own, tt); count = omega (arith, more, no_ids, no_names); runs = runs })
    (λ front last e.
    let both = same_from_push pre (h.tabled ++ front) f last (h.joined ∙ (ap (λ l. h.tabled ++ l) e ∙ sym (append_assoc h.tabled front (last ∷ [])))) in
    let others : AllByRecursion HasNoTable front = all-left HasNoTable front (last ∷ []) (subst (λ (l : List SequencedFile). AllByRecursion HasNoTable l) e h.others) in
    let count : id_count front + f.symbols.len ≡ n = omega (arith, ap id_count e, id-count-append front (last ∷ []), ap (λ (k : SequencedFile). k.symbols.len) both.1, h.count) in
    record {
      tabled = h.tabled;
      behind = front ++ g ∷ [];
      joined = ap (λ l. l ++ g ∷ []) both.0 ∙ append_assoc h.tabled front (g ∷ []);
      tables = h.tables;
      others = all-join HasNoTable front (g ∷ []) others (own, tt);
      count = omega (arith, id-count-append front (g ∷ []), count, more);
      runs = runs;
    })
  where
    all-right : (xs : List SequencedFile) → AllByRecursion HasIdsForAll (xs ++ f ∷ []) → AllByRecursion HasIdsForAll (f ∷ [])
    all-right [] all = all
    all-right (x ∷ xs) all = all-right xs all.1

-- the files of groups, of which the last is of symbols that the linker adds
files-last : {P : Type 0} (before : List (Group P)) (s : SyntheticSymbols) → flat_map files_of (before ++ group.SyntheticSymbols s ∷ []) ≡ flat_map files_of before ++ synthetic_file s ∷ []
files-last before s = flat_map-append files_of before (group.SyntheticSymbols s ∷ [])

-- what is asked of each group alone doesn't change with the number of ids
last-same : {P X : Type 0} (ask : Group P → X) → ((s : SyntheticSymbols) (len : ℕ) → ask (group.SyntheticSymbols (with_len s len)) ≡ ask (group.SyntheticSymbols s))
    → (before : List (Group P)) (s : SyntheticSymbols) (len : ℕ) → map ask (before ++ group.SyntheticSymbols s ∷ []) ≡ map ask (before ++ group.SyntheticSymbols (with_len s len) ∷ [])
last-same ask same before s len =
    map-append ask before (group.SyntheticSymbols s ∷ []) ∙ (ap (λ x. map ask before ++ x ∷ []) (sym (same s len)) ∙ sym (map-append ask before (group.SyntheticSymbols (with_len s len) ∷ [])))

-- the symbols that stand in tables stay
pub symbols-last : {P : Type 0} (before : List (Group P)) (s : SyntheticSymbols) → symbols_in (before ++ group.SyntheticSymbols s ∷ []) ≡ symbols_in before
symbols-last before s = symbols-more before (group.SyntheticSymbols s) ((refl, tt), tt)

-- as many names as ids, in the last group too
pub held-last : {P : Type 0} (before : List (Group P)) (s : SyntheticSymbols) (len : ℕ) (old new : List (List ℕ)) (starts : List FileStart)
    → AreHeld {P = P} (record { groups = before ++ group.SyntheticSymbols s ∷ []; added = old }) starts → length old + len ≡ length new + s.symbol_id_range.len → length (symbols_in before) + length new < 2 ^ 32
    → AreHeld {P = P} (record { groups = before ++ group.SyntheticSymbols (with_len s len) ∷ []; added = new }) starts
held-last {P} before s len old new starts h more few =
    let files = flat_map (λ (k : Group P). files_of k) before in
    let t = with_len s len in
    let old_numbered : AreNumbered (files ++ synthetic_file s ∷ []) (length old) = subst (λ (l : List SequencedFile). AreNumbered l (length old)) (files-last before s) h.numbered in
    let new_numbered : AreNumbered (files ++ synthetic_file t ∷ []) (length new) = numbered-last files (synthetic_file s) (synthetic_file t) (length old) (length new) old_numbered refl refl refl more in
    let ids = last-same (λ (k : Group P). file_ids k) (λ u n. refl) before s len in
    record {
      numbered = subst (λ (l : List SequencedFile). AreNumbered l (length new)) (sym (files-last before t)) new_numbered;
      places = λ i k got id at at_id. h.places i k got id (subst (λ (l : List (List FilePlace)). slice_get l i ≡ Some got) (sym ids) at) at_id;
      fits = omega (arith, names-count {P = P} (record { groups = before ++ group.SyntheticSymbols t ∷ []; added = new }), ap (λ (l : List Symbol). length l) (symbols-last before t), few);
      found = h.found ∙ (flat_map-append group_starts before (group.SyntheticSymbols s ∷ []) ∙ sym (flat_map-append group_starts before (group.SyntheticSymbols t ∷ [])));
    }

-- the last of groups gets an id more
pub with-id-last : {P : Type 0} (before : List (Group P)) (g : Group P) → with_id (before ++ g ∷ []) ≡ before ++ grown g ∷ []
with-id-last [] g = refl
with-id-last (b ∷ []) g = refl
with-id-last (b ∷ c ∷ bs) g = ap (λ l. b ∷ l) (with-id-last (c ∷ bs) g)

-- the ids of the last group end with those of all symbols
pub end-of-last : {P : Type 0} (held : HeldFiles P) (starts : List FileStart) → AreHeld held starts → (before : List (Group P)) (s : SyntheticSymbols) → held.groups ≡ before ++ group.SyntheticSymbols s ∷ [] → s.symbol_id_range.start + s.symbol_id_range.len ≡ length (names_in held)
end-of-last {P} held starts h before s is =
    let files = flat_map (λ (k : Group P). files_of k) before in
    let all : flat_map files_of held.groups ≡ files ++ synthetic_file s ∷ [] = ap (λ (gs : List (Group P)). flat_map files_of gs) is ∙ files-last before s in
    let parts = runs-split 0 files (synthetic_file s ∷ []) (subst (λ (l : List SequencedFile). RunsFrom 0 (spans_of l)) all h.numbered.runs) in
    omega (arith, parts.1.0, ids-count held starts h, ap id_count all, id-count-append files (synthetic_file s ∷ []))

-- so there is room for an id more, where there is a number for it
pub has-room : {P : Type 0} (held : HeldFiles P) (starts : List FileStart) → AreHeld held starts → length (names_in held) < 2 ^ 32 - 1 → HasRoom held.groups
has-room held starts h few = λ before s is. omega (arith, end-of-last held starts h before s is, few)

-- a symbol more is held
pub held-symbol : {P : Type 0} (held : HeldFiles P) (starts : List FileStart) (name : List ℕ) → AreHeld held starts → EndsInSynthetic held.groups → length (names_in held) < 2 ^ 32 - 1 → AreHeld (with_symbol held name) starts
held-symbol {P} held starts name h last few =
    let before = last.0 in
    let s = last.1.0 in
    let old : AreHeld {P = P} (record { groups = before ++ group.SyntheticSymbols s ∷ []; added = held.added }) starts = subst (λ (gs : List (Group P)). AreHeld {P = P} (record { groups = gs; added = held.added }) starts) last.1.1 h in
    let names : length (held.added ++ name ∷ []) ≡ length held.added + 1 = length-append held.added (name ∷ []) in
    let tables : length (symbols_in held.groups) ≡ length (symbols_in before) = ap (λ (gs : List (Group P)). length (symbols_in gs)) last.1.1 ∙ ap (λ (l : List Symbol). length l) (symbols-last before s) in
    let new = held-last before s (s.symbol_id_range.len + 1) held.added (held.added ++ name ∷ []) starts old (omega (arith, names)) (omega (arith, names, tables, names-count held, few)) in
    subst (λ (gs : List (Group P)). AreHeld {P = P} (record { groups = gs; added = held.added ++ name ∷ [] }) starts) (sym (ap (λ (gs : List (Group P)). with_id gs) last.1.1 ∙ with-id-last before (group.SyntheticSymbols s))) new

-- what was held before a symbol was added is held again without it
pub held-before : {P : Type 0} (held before : HeldFiles P) (starts : List FileStart) → AreHeld held starts → HadBefore held before → AreHeld before starts
held-before {P} held before starts h had =
    let front = had.last.0 in
    let s = had.last.1.0 in
    let more = with_len s (s.symbol_id_range.len + 1) in
    let old_names = before.added ++ had.name ∷ [] in
    let grown_groups : with_id before.groups ≡ front ++ group.SyntheticSymbols more ∷ [] = ap (λ (gs : List (Group P)). with_id gs) had.last.1.1 ∙ with-id-last front (group.SyntheticSymbols s) in
    let all : AreHeld (with_symbol before had.name) starts = subst (λ (k : HeldFiles P). AreHeld k starts) had.is h in
    let old : AreHeld {P = P} (record { groups = front ++ group.SyntheticSymbols more ∷ []; added = old_names }) starts = subst (λ (gs : List (Group P)). AreHeld {P = P} (record { groups = gs; added = old_names }) starts) grown_groups all in
    let names : length old_names ≡ length before.added + 1 = length-append before.added (had.name ∷ []) in
    let count = names-count {P = P} (record { groups = front ++ group.SyntheticSymbols more ∷ []; added = old_names }) in
    let tables : length (symbols_in (front ++ group.SyntheticSymbols more ∷ [])) ≡ length (symbols_in front) = ap (λ (l : List Symbol). length l) (symbols-last front more) in
    let new = held-last front more s.symbol_id_range.len old_names before.added starts old (omega (arith, names)) (omega (arith, names, tables, count, old.fits)) in
    subst (λ (gs : List (Group P)). AreHeld {P = P} (record { groups = gs; added = before.added }) starts) (sym had.last.1.1) new

-- the symbols of a group that the linker adds, if it has such
abbrev synthetic_of : {P : Type 0} → Group P → SyntheticSymbols → SyntheticSymbols
synthetic_of (group.SyntheticSymbols s) d = s
synthetic_of (group.Prelude p) d = d
synthetic_of (group.Objects o) d = d
synthetic_of (group.LinkerScripts l) d = d
synthetic_of (group.StubLibraries l) d = d

-- the last of groups, as it is read
pub last-read-is : {P : Type 0} (before : List (Group P)) (groups : List (Group P)) (g read : Group P) (n : ℕ) → groups ≡ before ++ g ∷ [] → n ≡ length groups → read ≡ get_or groups (n - 1) read → g ≡ read
last-read-is {P} before groups g read n is all at =
    let place : n - 1 ≡ length before = omega (arith, all, ap (λ (l : List (Group P)). length l) is, length-append before (g ∷ [])) in
    sym (at ∙ (ap (λ k. get_or groups k read) place ∙ (ap (λ (l : List (Group P)). get_or l (length before) read) is ∙ get_or-append_seam before g [] read)))

-- the symbols of the last group, as they are read
pub last-symbols : {P : Type 0} (before : List (Group P)) (groups : List (Group P)) (s u : SyntheticSymbols) (read : Group P) (n : ℕ) → groups ≡ before ++ group.SyntheticSymbols s ∷ [] → n ≡ length groups → read ≡ get_or groups (n - 1) read → read ≡ group.SyntheticSymbols u → s ≡ u
last-symbols {P} before groups s u read n is all at kind =
    ap (λ (g : Group P). synthetic_of g s) (last-read-is before groups (group.SyntheticSymbols s) read n is all at ∙ kind)

-- the last of groups, as it is written
pub last-written : {P : Type 0} (before : List (Group P)) (groups : List (Group P)) (g new : Group P) (n : ℕ) → groups ≡ before ++ g ∷ [] → n ≡ length groups → slice_set groups (n - 1) new ≡ before ++ new ∷ []
last-written {P} before groups g new n is all =
    let place : n - 1 ≡ length before = omega (arith, all, ap (λ (l : List (Group P)). length l) is, length-append before (g ∷ [])) in
    ap (λ k. slice_set groups k new) place ∙ (ap (λ (l : List (Group P)). slice_set l (length before) new) is ∙ set-append_seam before g [] new)

-- an id more, as it is written
pub grown-written : {P : Type 0} (groups : List (Group P)) (u : SyntheticSymbols) (ids : Span) (read : Group P) (n : ℕ) → EndsInSynthetic groups → n ≡ length groups → read ≡ get_or groups (n - 1) read → read ≡ group.SyntheticSymbols u
    → ids ≡ record { start = u.symbol_id_range.start; len = u.symbol_id_range.len + 1 } → slice_set groups (n - 1) (group.SyntheticSymbols (record { file_id = u.file_id; symbol_id_range = ids })) ≡ with_id groups
grown-written {P} groups u ids read n last all at kind made =
    let before = last.0 in
    let s = last.1.0 in
    let same = last-symbols before groups s u read n last.1.1 all at kind in
    let with_span : Span → Group P = λ r. group.SyntheticSymbols (record { file_id = u.file_id; symbol_id_range = r }) in
    let with_one : SyntheticSymbols → Group P = λ v. group.SyntheticSymbols (with_len v (v.symbol_id_range.len + 1)) in
    let new : with_span ids ≡ with_one s = ap with_span made ∙ ap with_one (sym same) in
    last-written before groups (group.SyntheticSymbols s) (group.SyntheticSymbols (record { file_id = u.file_id; symbol_id_range = ids })) n last.1.1 all
    ∙ (ap (λ (g : Group P). before ++ g ∷ []) new ∙ sym (ap (λ (gs : List (Group P)). with_id gs) last.1.1 ∙ with-id-last before (group.SyntheticSymbols s)))

-- groups of which the last one has an id more end so too
pub with-id-is : {P : Type 0} (groups before : List (Group P)) (last : EndsInSynthetic before) → groups ≡ with_id before → groups ≡ last.0 ++ group.SyntheticSymbols (with_len last.1.0 (last.1.0.symbol_id_range.len + 1)) ∷ []
with-id-is {P} groups before last is = is ∙ (ap (λ (gs : List (Group P)). with_id gs) last.1.1 ∙ with-id-last last.0 (group.SyntheticSymbols last.1.0))

-- they aren't empty
pub some-groups : {P : Type 0} (groups before : List (Group P)) → EndsInSynthetic before → groups ≡ with_id before → 1 ≤ length groups
some-groups {P} groups before last is =
    omega (arith, ap (λ (gs : List (Group P)). length gs) (with-id-is groups before last is), length-append last.0 (group.SyntheticSymbols (with_len last.1.0 (last.1.0.symbol_id_range.len + 1)) ∷ []))

-- the last one has an id
pub some-ids : {P : Type 0} (groups before : List (Group P)) (u : SyntheticSymbols) (read : Group P) (n : ℕ) → EndsInSynthetic before → groups ≡ with_id before → n ≡ length groups → read ≡ get_or groups (n - 1) read → read ≡ group.SyntheticSymbols u → 1 ≤ u.symbol_id_range.len
some-ids groups before u read n last is all at kind =
    let same = last-symbols last.0 groups (with_len last.1.0 (last.1.0.symbol_id_range.len + 1)) u read n (with-id-is groups before last is) all at kind in
    omega (arith, ap (λ (v : SyntheticSymbols). v.symbol_id_range.len) same)

-- an id fewer, as it is written
pub shrunk-written : {P : Type 0} (groups before : List (Group P)) (u : SyntheticSymbols) (ids : Span) (read : Group P) (n : ℕ) → EndsInSynthetic before → groups ≡ with_id before → n ≡ length groups → read ≡ get_or groups (n - 1) read → read ≡ group.SyntheticSymbols u
    → ids ≡ record { start = u.symbol_id_range.start; len = u.symbol_id_range.len - 1 } → slice_set groups (n - 1) (group.SyntheticSymbols (record { file_id = u.file_id; symbol_id_range = ids })) ≡ before
shrunk-written {P} groups before u ids read n last is all at kind made =
    let front = last.0 in
    let s = last.1.0 in
    let more = with_len s (s.symbol_id_range.len + 1) in
    let held = with-id-is groups before last is in
    let same = last-symbols front groups more u read n held all at kind in
    let len : s.symbol_id_range.len + 1 - 1 ≡ s.symbol_id_range.len = omega arith in
    let with_span : Span → Group P = λ r. group.SyntheticSymbols (record { file_id = u.file_id; symbol_id_range = r }) in
    let without_one : SyntheticSymbols → Group P = λ v. group.SyntheticSymbols (with_len v (v.symbol_id_range.len - 1)) in
    let with_ids : ℕ → Group P = λ k. group.SyntheticSymbols (with_len s k) in
    let new : with_span ids ≡ with_ids s.symbol_id_range.len = ap with_span made ∙ (ap without_one (sym same) ∙ ap with_ids len) in
    last-written front groups (group.SyntheticSymbols more) (group.SyntheticSymbols (record { file_id = u.file_id; symbol_id_range = ids })) n held all
    ∙ (ap (λ (g : Group P). front ++ g ∷ []) new ∙ sym last.1.1)

-- the last one is of symbols that the linker adds
pub shrunk-kind : {P : Type 0} (groups before : List (Group P)) (read : Group P) (n : ℕ) → EndsInSynthetic before → groups ≡ with_id before → n ≡ length groups → read ≡ get_or groups (n - 1) read → (s : SyntheticSymbols) × (read ≡ group.SyntheticSymbols s)
shrunk-kind groups before read n last is all at =
    let more = with_len last.1.0 (last.1.0.symbol_id_range.len + 1) in
    (more, sym (last-read-is last.0 groups (group.SyntheticSymbols more) read n (with-id-is groups before last is) all at))

-- what is left when the last of a list is taken
pub popped : {A : Type 0} (before all left : List A) (x : A) (n : ℕ) → all ≡ before ++ x ∷ [] → n ≡ length all → left ≡ take (n - 1) all → left ≡ before
popped before all left x n is count taken =
    let len : n - 1 ≡ length before = omega (arith, count, ap length is, length-append before (x ∷ [])) in
    taken ∙ (ap (λ k. take k all) len ∙ (ap (take (length before)) is ∙ take-append_seam before (x ∷ [])))

-- with a symbol more that the linker adds, those in tables stay
pub symbols-kept : {P : Type 0} (held : HeldFiles P) (name : List ℕ) → EndsInSynthetic held.groups → symbols_in (with_symbol held name).groups ≡ symbols_in held.groups
symbols-kept {P} held name last =
    let more = with_len last.1.0 (last.1.0.symbol_id_range.len + 1) in
    ap (λ (gs : List (Group P)). symbols_in gs) (with-id-is (with_id held.groups) held.groups last refl)
    ∙ (symbols-last last.0 more ∙ (sym (symbols-last last.0 last.1.0) ∙ sym (ap (λ (gs : List (Group P)). symbols_in gs) last.1.1)))

-- its name stands behind those of all others
pub names-kept : {P : Type 0} (held : HeldFiles P) (name : List ℕ) → EndsInSynthetic held.groups → names_in (with_symbol held name) ≡ names_in held ++ name ∷ []
names-kept held name last =
    ap (λ (l : List Symbol). map (λ (x : Symbol). x.name) l ++ (held.added ++ name ∷ [])) (symbols-kept held name last)
    ∙ sym (append_assoc (map (λ (x : Symbol). x.name) (symbols_in held.groups)) held.added (name ∷ []))

-- and another symbol can be added
pub ends-kept : {P : Type 0} (held : HeldFiles P) (name : List ℕ) → EndsInSynthetic held.groups → EndsInSynthetic (with_symbol held name).groups
ends-kept held name last = (last.0, (with_len last.1.0 (last.1.0.symbol_id_range.len + 1), with-id-is (with_id held.groups) held.groups last refl))
