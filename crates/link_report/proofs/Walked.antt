-- The names of the symbols of files and groups, and their lines one after another.
use Rattle.std.proofs.Common.{◌≡◌, ◌∙◌, ◌+◌, ◌++◌, ℕ, suc, List, [], ◌∷◌, append-nil, append_assoc, arith, ◌<◌, drop, get_or, length, length-append, map, refl, subst, sym, ap, Some, slice_get}
use Rattle.std.specs.Prelude.{option_map}
use Rattle.std.specs.List.{flat_map}
use Rattle.std.proofs.Math.Seq.{drop-append_seam}
use Rattle.std.proofs.lemmas.List.{drop_more, length-map, map-append}
use Rattle.std.proofs.lemmas.Option.{slice_get-get_or, slice_get-map}
use Rattle.std.proofs.lemmas.Grind.{flat_map-append}
use Rattle.link_input.specs.InputFiles.{InputFile, prelude, object, linker_script, stub_library, synthetic, object_count, symbol_count}
use Rattle.link_input.specs.ObjectFile.{ObjectFile}
use Rattle.link_input.specs.SequencedFiles.{SequencedFile}
use Rattle.link_input.specs.Symbols.{Symbol, file_symbols, object_symbol, symbols_of}
use Rattle.link_input.specs.declared.symbol_entry.SymbolEntry.{SymbolEntry}
use Rattle.link_input_groups.specs.declared.group.Group.{Group}
use Rattle.link_input_groups.specs.Groups.{files_of}
use Rattle.link_input_groups.proofs.FileTotals.{drop-at}
use Rattle.link_input_groups.proofs.Numbering.{own-symbols}
use Rattle.link_input_groups.proofs.Reading.{get-map}
use Rattle.link_db_files.specs.HeldFiles.{HeldFiles, names_in}
use Rattle.link_rules.specs.Places.{Bytes, each_from}
use Rattle.link_rules.specs.Report.{joined_lines}
use Rattle.link_report.specs.Runs.{names_of_file, names_of_files, names_of_groups}

-- ---- names

-- the names of entries don't depend on the place of their object
entry-names : (n : ℕ) (o : ObjectFile) (es : List SymbolEntry) → map (λ (x : Symbol). x.name) (map (object_symbol n o) es) ≡ map (λ (x : Symbol). x.name) (map (object_symbol 0 o) es)
entry-names n o [] = refl
entry-names n o (e ∷ es) = ap (λ (l : List Bytes). e.name ∷ l) (entry-names n o es)

-- the names of a file's symbols don't depend on how many objects stand before it
file-names : (n : ℕ) (f : InputFile) → map (λ (x : Symbol). x.name) (file_symbols n f) ≡ names_of_file f
file-names n (prelude symbols) = refl
file-names n (object o) = entry-names n o o.object.symbols
file-names n (linker_script s) = refl
file-names n (stub_library input symbols) = refl
file-names n synthetic = refl

-- the names of the symbols of files are those of each file, one after another
files-names : (n : ℕ) (fs : List SequencedFile) → map (λ (x : Symbol). x.name) (symbols_of n (map (λ (f : SequencedFile). f.file) fs)) ≡ names_of_files fs
files-names n [] = refl
files-names n (f ∷ fs) =
    map-append (λ (x : Symbol). x.name) (file_symbols n f.file) (symbols_of (n + object_count f.file) (map (λ (g : SequencedFile). g.file) fs))
    ∙ (ap (λ (l : List Bytes). l ++ map (λ (x : Symbol). x.name) (symbols_of (n + object_count f.file) (map (λ (g : SequencedFile). g.file) fs))) (file-names n f.file)
    ∙ ap (λ (l : List Bytes). names_of_file f.file ++ l) (files-names (n + object_count f.file) fs))

-- the names of the files of groups are those of each group, one after another
groups-names : {P : Type 0} (groups : List (Group P)) → names_of_files (flat_map (λ (g : Group P). files_of g) groups) ≡ names_of_groups groups
groups-names [] = refl
groups-names {P} (g ∷ gs) =
    flat_map-append (λ (f : SequencedFile). names_of_file f.file) (files_of g) (flat_map (λ (k : Group P). files_of k) gs)
    ∙ ap (λ (l : List Bytes). names_of_files (files_of g) ++ l) (groups-names gs)

-- the names of all symbols are those of the groups, and behind them those that the linker added
pub held-names : {P : Type 0} (held : HeldFiles P) → names_in held ≡ names_of_groups held.groups ++ held.added
held-names {P} held =
    ap (λ (l : List Bytes). l ++ held.added) (files-names 0 (flat_map (λ (g : Group P). files_of g) held.groups) ∙ groups-names held.groups)

-- the names of what stands in a table, by its places
pub named-row : {X : Type 0} (to : X → Symbol) (xs : List X) (i : ℕ) → slice_get (map (λ (s : Symbol). s.name) (map to xs)) i ≡ option_map (λ (x : X). (to x).name) (slice_get xs i)
named-row to xs i = slice_get-map (λ (s : Symbol). s.name) (map to xs) i ∙ get-map (λ (s : Symbol). s.name) to xs i

-- the name of what is read at a place of a table
pub named-at : {X : Type 0} (to : X → Symbol) (xs ys : List X) (i : ℕ) (d : X) (name : Bytes) → ys ≡ xs → i < length xs → name ≡ (to (get_or ys i d)).name
    → slice_get (map (λ (s : Symbol). s.name) (map to xs)) i ≡ Some name
named-at {X} to xs ys i d name same lt is =
    named-row to xs i
    ∙ (ap (λ (l : List X). option_map (λ (x : X). (to x).name) (slice_get l i)) (sym same)
    ∙ (ap (option_map (λ (x : X). (to x).name)) (slice_get-get_or ys i d (subst (λ (l : List X). i < length l) (sym same) lt))
    ∙ ap Some (sym is)))

-- a file has a name for each of its symbols
pub file-count : (f : InputFile) → length (names_of_file f) ≡ symbol_count f
file-count f = length-map (file_symbols 0 f) (λ (x : Symbol). x.name) ∙ sym (own-symbols 0 f)

-- the symbols of a file, and of those behind it
pub files-count : (files : List SequencedFile) (i : ℕ) (f : SequencedFile) (n : ℕ) → slice_get files i ≡ Some f → n ≡ symbol_count f.file
    → length (names_of_files (drop i files)) ≡ n + length (names_of_files (drop (i + 1) files))
files-count files i f n at is =
    ap (λ (fs : List SequencedFile). length (names_of_files fs)) (drop-at files i f at)
    ∙ (length-append (names_of_file f.file) (names_of_files (drop (i + 1) files))
    ∙ ap (λ m. m + length (names_of_files (drop (i + 1) files))) (file-count f.file ∙ sym is))

-- the symbols of a group and of those behind it, counted
group-count : {P : Type 0} (g : Group P) (gs : List (Group P)) → length (names_of_groups (g ∷ gs)) ≡ length (names_of_files (files_of g)) + length (names_of_groups gs)
group-count g gs = length-append (names_of_files (files_of g)) (names_of_groups gs)

-- the symbols of a group, and of those behind it
pub groups-count : {P : Type 0} (groups : List (Group P)) (i : ℕ) (g : Group P) → i < length groups → g ≡ get_or groups i g
    → length (names_of_groups (drop i groups)) ≡ length (names_of_files (files_of g)) + length (names_of_groups (drop (i + 1) groups))
groups-count {P} groups i g lt is =
    ap (λ (gs : List (Group P)). length (names_of_groups gs)) (drop_more groups i g lt ∙ ap (λ (k : Group P). k ∷ drop (i + 1) groups) (sym is))
    ∙ group-count g (drop (i + 1) groups)

-- ---- lines

-- two lists place by place
pub each-append : {X Y : Type 0} (f : ℕ → X → Y) (i : ℕ) (xs ys : List X) → each_from f i (xs ++ ys) ≡ each_from f i xs ++ each_from f (i + length xs) ys
each-append f i [] ys = let same : i ≡ i + 0 = omega arith in ap (λ n. each_from f n ys) same
each-append f i (x ∷ xs) ys =
    let next : i + 1 + length xs ≡ i + suc (length xs) = omega arith in
    ap (λ l. f i x ∷ l) (each-append f (i + 1) xs ys ∙ ap (λ n. each_from f (i + 1) xs ++ each_from f n ys) next)

-- lines of names, and of those behind them
pub lines-append : (f : ℕ → Bytes → Bytes) (i : ℕ) (xs ys : List Bytes) → joined_lines (each_from f i (xs ++ ys)) ≡ joined_lines (each_from f i xs) ++ joined_lines (each_from f (i + length xs) ys)
lines-append f i xs ys =
    ap joined_lines (each-append f i xs ys) ∙ flat_map-append (λ (line : Bytes). line) (each_from f i xs) (each_from f (i + length xs) ys)

-- the lines of some names more, and those of the names that are left
pub lines-more : (f : ℕ → Bytes → Bytes) (before after all : Bytes) (id next : ℕ) (names own rest : List Bytes)
    → names ≡ own ++ rest → next ≡ id + length own → after ≡ before ++ joined_lines (each_from f id own)
    → before ++ joined_lines (each_from f id names) ≡ all → after ++ joined_lines (each_from f next rest) ≡ all
lines-more f before after all id next names own rest are next_is after_is held =
    let lines = joined_lines (each_from f (id + length own) rest) in
    ap (λ (t : Bytes). t ++ joined_lines (each_from f next rest)) after_is
    ∙ (ap (λ n. (before ++ joined_lines (each_from f id own)) ++ joined_lines (each_from f n rest)) next_is
    ∙ (append_assoc before (joined_lines (each_from f id own)) lines
    ∙ (ap (λ (t : Bytes). before ++ t) (sym (lines-append f id own rest))
    ∙ (ap (λ (ns : List Bytes). before ++ joined_lines (each_from f id ns)) (sym are) ∙ held))))

-- the lines of a file more, and those of the files that are left
pub file-lines : (f : ℕ → Bytes → Bytes) (before after all : Bytes) (id next : ℕ) (files : List SequencedFile) (i : ℕ) (file : SequencedFile) (n : ℕ)
    → slice_get files i ≡ Some file → n ≡ symbol_count file.file → next ≡ id + n → after ≡ before ++ joined_lines (each_from f id (names_of_file file.file))
    → before ++ joined_lines (each_from f id (names_of_files (drop i files))) ≡ all → after ++ joined_lines (each_from f next (names_of_files (drop (i + 1) files))) ≡ all
file-lines f before after all id next files i file n at is next_is after_is held =
    lines-more f before after all id next (names_of_files (drop i files)) (names_of_file file.file) (names_of_files (drop (i + 1) files))
    (ap names_of_files (drop-at files i file at)) (next_is ∙ ap (λ m. id + m) (is ∙ sym (file-count file.file))) after_is held

-- the lines of a group more, and those of the groups that are left
pub group-lines : {P : Type 0} (f : ℕ → Bytes → Bytes) (before after all : Bytes) (id next : ℕ) (groups : List (Group P)) (i : ℕ) (g : Group P)
    → i < length groups → g ≡ get_or groups i g → next ≡ id + length (names_of_files (files_of g)) → after ≡ before ++ joined_lines (each_from f id (names_of_files (files_of g)))
    → before ++ joined_lines (each_from f id (names_of_groups (drop i groups))) ≡ all → after ++ joined_lines (each_from f next (names_of_groups (drop (i + 1) groups))) ≡ all
group-lines {P} f before after all id next groups i g lt is next_is after_is held =
    lines-more f before after all id next (names_of_groups (drop i groups)) (names_of_files (files_of g)) (names_of_groups (drop (i + 1) groups))
    (ap (λ (gs : List (Group P)). names_of_groups gs) (drop_more groups i g lt ∙ ap (λ (k : Group P). k ∷ drop (i + 1) groups) (sym is))) next_is after_is held

-- one line more, and those of the names that are left
pub line-more : (f : ℕ → Bytes → Bytes) (before after all : Bytes) (id told next : ℕ) (names rest : List Bytes) (name : Bytes)
    → told ≡ id → names ≡ name ∷ rest → next ≡ id + 1 → after ≡ before ++ f told name
    → before ++ joined_lines (each_from f id names) ≡ all → after ++ joined_lines (each_from f next rest) ≡ all
line-more f before after all id told next names rest name told_is are next_is after_is held =
    lines-more f before after all id next names (name ∷ []) rest are next_is
    (after_is ∙ ap (λ (t : Bytes). before ++ t) (ap (λ n. f n name) told_is ∙ sym (append-nil (f id name)))) held

-- the lines of the names in front stand, and those of the names behind them are left
pub lines-left : (f : ℕ → Bytes → Bytes) (before after : Bytes) (count : ℕ) (front behind names : List Bytes) → names ≡ front ++ behind → count ≡ length front
    → after ≡ before ++ joined_lines (each_from f 0 front)
    → after ++ joined_lines (each_from f count (drop count names)) ≡ before ++ joined_lines (each_from f 0 names)
lines-left f before after count front behind names are count_is after_is =
    lines-more f before after (before ++ joined_lines (each_from f 0 names)) 0 count names front (drop count names) left (omega (arith, count_is)) after_is refl
  where
    left : names ≡ front ++ drop count names
    left =
        are ∙ ap (λ (l : List Bytes). front ++ l)
        (sym (ap (λ (l : List Bytes). drop count l) are ∙ (ap (λ n. drop n (front ++ behind)) count_is ∙ drop-append_seam front behind)))
