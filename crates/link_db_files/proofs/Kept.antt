-- The columns of files and of their symbols, as groups are added and taken back.
use Rattle.std.proofs.Common.{◌≡◌, ◌+◌, ◌++◌, ◌≤◌, ◌∙◌, ℕ, List, [], Some, arith, drop, length, length-append, map, slice_get, subst, sym, take, ap}
use Rattle.std.specs.List.{flat_map, AllByRecursion}
use Rattle.std.proofs.lemmas.List.{append-nil, length-map, map-append, nil_from_length, take-append-drop, take_at}
use Rattle.std.proofs.lemmas.List.Concat.{flat_map-append}
use Rattle.link_input_groups.specs.declared.group.Group.{Group}
use Rattle.link_input_groups.specs.Asked.{HasIdsForAll}
use Rattle.link_input_groups.specs.Groups.{RunsFrom, files_of}
use Rattle.link_input.specs.SequencedFiles.{SequencedFile}
use Rattle.link_input.specs.Symbols.{Symbol, symbols_of}
use Rattle.link_db_files.specs.Adding.{EndsInSynthetic, with_id}
use Rattle.link_db_files.specs.Asked.{asked_number, asked_numbers_of}
use Rattle.link_db_files.specs.Columns.{HeldColumns, columns_behind, columns_of, first_columns, joined_columns, symbols_behind}
use Rattle.link_db_files.specs.GroupFiles.{AreGroupsOfLink, symbols_in}
use Rattle.link_db_files.specs.HeldFiles.{HeldFiles}
use Rattle.link_db_files.specs.Inputs.{objects_in}
use Rattle.link_db_files.specs.Numbered.{AreHeld, spans_of}
use Rattle.link_db_files.specs.Outlines.{group_outlines}
use Rattle.link_db_files.specs.Sources.{source_of, sources_of}
use Rattle.link_db_files.specs.Starts.{starts_of}
use Rattle.link_db_files.specs.declared.starts.FileStart.{FileStart}
use Rattle.link_db_files.proofs.Batches.{all-left, of-link}
use Rattle.link_db_files.proofs.Changing.{symbols-kept}
use Rattle.link_db_files.proofs.Joining.{symbols-join}
use Rattle.link_db_files.proofs.Lookup.{first-run}
use Rattle.link_db_files.proofs.Numbered.{bare, id_count, runs-split, tabled-count}
use Rattle.link_db_files.proofs.Outlined.{outlines-first, outlines-kept}
use Rattle.link_db_files.proofs.Places.{get-right, length-all-starts, start-file}

-- columns are the same where each is
pub same-columns : (a b : HeldColumns) → a.outlines ≡ b.outlines → a.sources ≡ b.sources → a.asked ≡ b.asked → a ≡ b
same-columns a b outlines sources asked =
    ap (λ l. record a { outlines = l }) outlines
    ∙ (ap (λ l. record { outlines = b.outlines; sources = l; asked = a.asked }) sources
    ∙ ap (λ l. record { outlines = b.outlines; sources = b.sources; asked = l }) asked)

-- groups more
pub columns-grown : {P : Type 0} (groups more new : List (Group P)) (objects : ℕ) (old own all : HeldColumns) → old ≡ columns_of groups → new ≡ groups ++ more
    → objects ≡ length (objects_in groups) → own ≡ columns_behind objects more → all ≡ joined_columns old own → all ≡ columns_of new
columns-grown {P} groups more new objects old own all held is before have joined =
    joined
    ∙ (ap (λ c. joined_columns c own) held
    ∙ (ap (λ c. joined_columns (columns_of groups) c) (have ∙ ap (λ n. columns_behind n more) before)
    ∙ (same-columns (joined_columns (columns_of groups) (columns_behind (length (objects_in groups)) more)) (columns_of (groups ++ more))
    (sym (flat_map-append group_outlines groups more))
    (sym (map-append source_of (symbols_in groups) behind) ∙ ap sources_of (sym split))
    (sym (map-append asked_number (symbols_in groups) behind) ∙ ap asked_numbers_of (sym split))
    ∙ sym (ap (λ (gs : List (Group P)). columns_of gs) is))))
  where
    behind : List Symbol
    behind = symbols_behind (length (objects_in groups)) more

    split : symbols_in (groups ++ more) ≡ symbols_in groups ++ behind
    split = symbols-join groups more

-- with an id more for the last group they are the same
pub columns-kept : {P : Type 0} (groups : List (Group P)) → EndsInSynthetic groups → columns_of (with_id groups) ≡ columns_of groups
columns-kept {P} groups last =
    let held : HeldFiles P = record { groups = groups; added = [] } in
    let same : symbols_in (with_id groups) ≡ symbols_in groups = symbols-kept held [] last in
    same-columns (columns_of (with_id groups)) (columns_of groups) (outlines-kept groups last) (ap sources_of same) (ap asked_numbers_of same)

-- what is told of the first elements comes first
mapped-first : {A B : Type 0} (tell : A → B) (first rest all : List A) (n : ℕ) → all ≡ first ++ rest → n ≡ length first → take n (map tell all) ≡ map tell first
mapped-first {A} tell first rest all n is count =
    ap (λ (l : List A). take n (map tell l)) is ∙ (ap (take n) (map-append tell first rest) ∙ take_at (map tell first) (map tell rest) n (length-map first tell ∙ sym count))

-- the first groups have the first of them
pub columns-first : {P : Type 0} (groups : List (Group P)) (n files symbols : ℕ) → files ≡ length (flat_map files_of (take n groups)) → symbols ≡ length (symbols_in (take n groups))
    → first_columns files symbols (columns_of groups) ≡ columns_of (take n groups)
columns-first {P} groups n files symbols all_files all_symbols =
    let first = symbols_in (take n groups) in
    let rest = symbols_behind (length (objects_in (take n groups))) (drop n groups) in
    let split : symbols_in groups ≡ first ++ rest = ap (λ (gs : List (Group P)). symbols_in gs) (sym (take-append-drop n groups)) ∙ symbols-join (take n groups) (drop n groups) in
    same-columns (first_columns files symbols (columns_of groups)) (columns_of (take n groups)) (outlines-first groups n files all_files)
    (mapped-first source_of first rest (symbols_in groups) symbols split all_symbols)
    (mapped-first asked_number first rest (symbols_in groups) symbols split all_symbols)

-- the files of the first groups, and of those behind
files-split : {P : Type 0} (groups : List (Group P)) (n : ℕ) → flat_map files_of groups ≡ flat_map files_of (take n groups) ++ flat_map files_of (drop n groups)
files-split {P} groups n =
    ap (λ (gs : List (Group P)). flat_map files_of gs) (sym (take-append-drop n groups)) ∙ flat_map-append files_of (take n groups) (drop n groups)

-- the file behind those of the first groups begins behind their symbols
pub symbols-before : {P : Type 0} (held : HeldFiles P) (starts : List FileStart) → AreHeld held starts → AreGroupsOfLink held.groups → (n k : ℕ) (x : FileStart) → k ≡ length (flat_map files_of (take n held.groups))
    → slice_get starts k ≡ Some x → x.start ≡ length (symbols_in (take n held.groups))
symbols-before {P} held starts h link n k x count at =
    let fs = flat_map (λ (g : Group P). files_of g) (take n held.groups) in
    let more = flat_map (λ (g : Group P). files_of g) (drop n held.groups) in
    let split = files-split held.groups n in
    let found = start-file held.groups k x h.places (ap (λ (l : List FileStart). slice_get l k) (sym h.found) ∙ at) in
    let links = of-link held.groups link in
    let tables : AllByRecursion HasIdsForAll fs = all-left HasIdsForAll fs more (subst (λ (l : List SequencedFile). AllByRecursion HasIdsForAll l) split links.tables) in
    let runs = runs-split 0 fs more (subst (λ (l : List SequencedFile). RunsFrom 0 (spans_of l)) split links.runs) in
    let end : length fs + 0 ≡ k = omega (arith, count) in
    let here : slice_get more 0 ≡ Some found.0 =
    sym (get-right fs more 0) ∙ (ap (slice_get (fs ++ more)) end ∙ (ap (λ (l : List SequencedFile). slice_get l k) (sym split) ∙ found.1.0)) in
    omega (arith, first-run (0 + id_count fs) more runs.1 found.0 here, found.1.1.1, tabled-count 0 fs tables)

-- where no file is behind them, all symbols are theirs
pub symbols-all : {P : Type 0} (groups : List (Group P)) (n k : ℕ) → k ≡ length (flat_map files_of (take n groups)) → length (starts_of groups) ≤ k → length (symbols_in groups) ≡ length (symbols_in (take n groups))
symbols-all {P} groups n k count past =
    let fs = flat_map (λ (g : Group P). files_of g) (take n groups) in
    let more = flat_map (λ (g : Group P). files_of g) (drop n groups) in
    let split = files-split groups n in
    let none : more ≡ [] = nil_from_length more (omega (arith, count, past, length-all-starts groups, ap (λ (l : List SequencedFile). length l) split, length-append fs more)) in
    ap (λ (l : List SequencedFile). length (symbols_of 0 (bare l))) (split ∙ (ap (λ (l : List SequencedFile). fs ++ l) none ∙ append-nil fs))
