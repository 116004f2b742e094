-- Files whose symbols have ids one after another.
use Rattle.std.proofs.Common.{◌≡◌, ◌+◌, ◌-◌, ◌<◌, ◌≤◌, ◌++◌, ◌∙◌, ℕ, zero, suc, List, [], ◌∷◌, length, map, Some, refl, sym, ap, subst, arith, length-append, take}
use Rattle.std.specs.Prelude.{slice_get}
use Rattle.std.specs.List.{AllByRecursion}
use Rattle.std.proofs.lemmas.List.{append_assoc, append-nil, map-append, take-append-le}
use Rattle.std.proofs.lemmas.Option.{same_Some, slice_get_past, slice_get_within}
use Rattle.link_ids.specs.Span.{Span, IsInside, offset_in}
use Rattle.link_input.specs.InputFiles.{InputFile, prelude, object, linker_script, stub_library, synthetic, object_count, symbol_count}
use Rattle.link_input.specs.Limits.{total}
use Rattle.link_input.specs.SequencedFiles.{SequencedFile}
use Rattle.link_input.specs.Symbols.{Symbol, file_symbols, symbols_of}
use Rattle.link_input_groups.specs.Asked.{AreIdsOf, HasIdsForAll}
use Rattle.link_input_groups.specs.Groups.{RunsFrom, length_of_spans}
use Rattle.link_input_groups.proofs.Cutting.{total-append}
use Rattle.link_input_groups.proofs.Numbering.{own-symbols}
use Rattle.link_db_files.specs.Numbered.{AreNumbered, HasNoTable, spans_of}
use Rattle.link_db_files.proofs.Numbers.{held-at}
use Rattle.link_db_files.proofs.ObjectCounts.{count_of}
use Rattle.link_db_files.proofs.Places.{get-left, get-right, get-split}

-- the files themselves, without their ids
abbrev pub bare : List SequencedFile → List InputFile
bare files = map (λ f. f.file) files

-- how many ids files have
abbrev pub id_count : List SequencedFile → ℕ
id_count files = length_of_spans (spans_of files)

-- the ids of files and of others
pub id-count-append : (xs ys : List SequencedFile) → id_count (xs ++ ys) ≡ id_count xs + id_count ys
id-count-append xs ys = ap length_of_spans (map-append (λ (f : SequencedFile). f.symbols) xs ys) ∙ total-append (λ (s : Span). s.len) (spans_of xs) (spans_of ys)

-- a list of which nothing is left
none-of : {A : Type 0} (xs : List A) → length xs ≡ 0 → xs ≡ []
none-of [] h = refl
none-of (x ∷ xs) h = absurd (omega (arith, h))

-- the symbols of files and of others
pub symbols-append : (n : ℕ) (xs ys : List InputFile) → symbols_of n (xs ++ ys) ≡ symbols_of n xs ++ symbols_of (n + total object_count xs) ys
symbols-append n [] ys = let e : n ≡ n + 0 = omega arith in ap (λ m. symbols_of m ys) e
symbols-append n (x ∷ xs) ys =
    let next = n + object_count x in
    let e : next + total object_count xs ≡ n + total object_count (x ∷ xs) = omega arith in
    ap (λ l. file_symbols n x ++ l) (symbols-append next xs ys ∙ ap (λ m. symbols_of next xs ++ symbols_of m ys) e)
    ∙ sym (append_assoc (file_symbols n x) (symbols_of next xs) (symbols_of (n + total object_count (x ∷ xs)) ys))

-- files with an id for each symbol have as many ids as symbols
pub tabled-count : (n : ℕ) (fs : List SequencedFile) → AllByRecursion HasIdsForAll fs → length (symbols_of n (bare fs)) ≡ id_count fs
tabled-count n [] h = refl
tabled-count n (f ∷ fs) h =
    omega (arith, length-append (file_symbols n f.file) (symbols_of (n + object_count f.file) (bare fs)), own-symbols n f.file, h.0, tabled-count (n + object_count f.file) fs h.1)

-- a file without a table has no symbol in one
no-symbol : (n : ℕ) (f : InputFile) → symbol_count f ≡ 0 → file_symbols n f ≡ []
no-symbol n f none = none-of (file_symbols n f) (sym (own-symbols n f) ∙ none)

-- files without tables have no symbol in one
pub no-symbols : (n : ℕ) (fs : List SequencedFile) → AllByRecursion HasNoTable fs → symbols_of n (bare fs) ≡ []
no-symbols n [] h = refl
no-symbols n (f ∷ fs) h = rw (no-symbol n f.file h.0.0) (no-symbols (n + object_count f.file) fs h.1)

-- all symbols that stand in tables are those of the files with tables
pub tabled-symbols : (tabled behind : List SequencedFile) → AllByRecursion HasNoTable behind → symbols_of 0 (bare (tabled ++ behind)) ≡ symbols_of 0 (bare tabled)
tabled-symbols tabled behind others =
    ap (symbols_of 0) (map-append (λ (f : SequencedFile). f.file) tabled behind)
    ∙ (symbols-append 0 (bare tabled) (bare behind)
    ∙ (ap (λ l. symbols_of 0 (bare tabled) ++ l) (no-symbols (0 + total object_count (bare tabled)) behind others) ∙ append-nil (symbols_of 0 (bare tabled))))

-- as many ids as symbols, those in tables and those that were added
pub numbered-count : (fs : List SequencedFile) (added : ℕ) → AreNumbered fs added → id_count fs ≡ length (symbols_of 0 (bare fs)) + added
numbered-count fs added h =
    let all : length (symbols_of 0 (bare fs)) ≡ length (symbols_of 0 (bare h.tabled)) = ap (λ (l : List SequencedFile). length (symbols_of 0 (bare l))) h.joined ∙ ap (λ (l : List Symbol). length l) (tabled-symbols h.tabled h.behind h.others) in
    omega (arith, ap id_count h.joined, id-count-append h.tabled h.behind, tabled-count 0 h.tabled h.tables, all, h.count)

-- a file begins where the run does, or later
run-from : (n : ℕ) (fs : List SequencedFile) → RunsFrom n (spans_of fs) → (k : ℕ) (f : SequencedFile) → slice_get fs k ≡ Some f → n ≤ f.symbols.start
run-from n [] runs k f is = cc
run-from n (x ∷ xs) runs zero f is = subst (λ (g : SequencedFile). n ≤ g.symbols.start) (same_Some x f is) (omega (arith, runs.0))
run-from n (x ∷ xs) runs (suc k) f is = omega (arith, run-from (n + x.symbols.len) xs runs.1 k f is)

-- the last file ends where the run does
pub run-last : (n : ℕ) (fs : List SequencedFile) → RunsFrom n (spans_of fs) → (k : ℕ) (f : SequencedFile) → slice_get fs k ≡ Some f → suc k ≡ length fs → f.symbols.start + f.symbols.len ≡ n + id_count fs
run-last n [] runs k f is last = cc
run-last n (x ∷ []) runs zero f is last = subst (λ (g : SequencedFile). g.symbols.start + g.symbols.len ≡ n + (x.symbols.len + 0)) (same_Some x f is) (omega (arith, runs.0))
run-last n (x ∷ y ∷ ys) runs zero f is last = absurd (omega (arith, last))
run-last n (x ∷ xs) runs (suc k) f is last = omega (arith, run-last (n + x.symbols.len) xs runs.1 k f is (omega (arith, last)))

-- a file ends behind a number of the run before which the next file doesn't begin
pub run-within : (n : ℕ) (fs : List SequencedFile) → RunsFrom n (spans_of fs) → (k : ℕ) (f : SequencedFile) → slice_get fs k ≡ Some f → (id : ℕ) → id < n + id_count fs
    → ((g : SequencedFile) → slice_get fs (suc k) ≡ Some g → id < g.symbols.start) → id < f.symbols.start + f.symbols.len
run-within n [] runs k f is id lt next = cc
run-within n (x ∷ []) runs zero f is id lt next = subst (λ (g : SequencedFile). id < g.symbols.start + g.symbols.len) (same_Some x f is) (omega (arith, runs.0, lt))
run-within n (x ∷ y ∷ ys) runs zero f is id lt next = subst (λ (g : SequencedFile). id < g.symbols.start + g.symbols.len) (same_Some x f is) (omega (arith, runs.0, runs.1.0, next y refl))
run-within n (x ∷ xs) runs (suc k) f is id lt next = run-within (n + x.symbols.len) xs runs.1 k f is id (omega (arith, lt)) next

-- where a symbol stands: in its file, and among all
record Stands (n : ℕ) (fs : List SequencedFile) (s k : ℕ) (f : SequencedFile) (j : ℕ) : Type 0 where
  pub before : ℕ
  pub counted : before ≡ n + count_of (take k fs)
  pub symbol : Symbol
  pub here : slice_get (file_symbols before f.file) j ≡ Some symbol
  pub among : (at : ℕ) → s + at ≡ f.symbols.start + j → slice_get (symbols_of n (bare fs)) at ≡ Some symbol

-- each symbol of a file with a table stands at the place of its id
tabled-stands : (n s : ℕ) (fs : List SequencedFile) → AllByRecursion HasIdsForAll fs → RunsFrom s (spans_of fs) → (k : ℕ) (f : SequencedFile) → slice_get fs k ≡ Some f → (j : ℕ) → j < f.symbols.len → Stands n fs s k f j
tabled-stands n s [] tables runs k f is j lt = cc
tabled-stands n s (x ∷ xs) tables runs zero f is j lt =
    let same = same_Some x f is in
    let less : j < x.symbols.len = subst (λ (g : SequencedFile). j < g.symbols.len) (sym same) lt in
    subst (λ (g : SequencedFile). Stands n (x ∷ xs) s zero g j) same (held-at (file_symbols n x.file) j (omega (arith, less, tables.0, own-symbols n x.file)) (λ y found. record {
      before = n;
      counted = omega arith;
      symbol = y;
      here = found;
      among = λ at e.
          let place : at ≡ j = omega (arith, e, runs.0) in
          subst (λ i. slice_get (file_symbols n x.file ++ symbols_of (n + object_count x.file) (bare xs)) i ≡ Some y) (sym place) (get-left (file_symbols n x.file) (symbols_of (n + object_count x.file) (bare xs)) j y found);
    }))
tabled-stands n s (x ∷ xs) tables runs (suc k) f is j lt =
    let own = file_symbols n x.file in
    let rest = symbols_of (n + object_count x.file) (bare xs) in
    let r = tabled-stands (n + object_count x.file) (s + x.symbols.len) xs tables.1 runs.1 k f is j lt in
    let from = run-from (s + x.symbols.len) xs runs.1 k f is in
    record {
      before = r.before;
      counted = omega (arith, r.counted);
      symbol = r.symbol;
      here = r.here;
      among = λ at e.
          let rest_at = at - x.symbols.len in
          let place : at ≡ length own + rest_at = omega (arith, e, from, tables.0, own-symbols n x.file) in
          let there : slice_get rest rest_at ≡ Some r.symbol = r.among rest_at (omega (arith, e, from)) in
          ap (slice_get (own ++ rest)) place ∙ (get-right own rest rest_at ∙ there);
    }

-- a run in two parts
pub runs-split : (n : ℕ) (xs ys : List SequencedFile) → RunsFrom n (spans_of (xs ++ ys)) → RunsFrom n (spans_of xs) × RunsFrom (n + id_count xs) (spans_of ys)
runs-split n [] ys runs = let e : n ≡ n + 0 = omega arith in (tt, subst (λ m. RunsFrom m (spans_of ys)) e runs)
runs-split n (x ∷ xs) ys runs =
    let r = runs-split (n + x.symbols.len) xs ys runs.1 in
    let e : n + x.symbols.len + id_count xs ≡ n + id_count (x ∷ xs) = omega arith in
    ((runs.0, r.0), subst (λ m. RunsFrom m (spans_of ys)) e r.1)

-- what is true of all is true of each
pub all-at : {A : Type 0} (Q : A → Type 0) (xs : List A) → AllByRecursion Q xs → (k : ℕ) (x : A) → slice_get xs k ≡ Some x → Q x
all-at Q [] all k x is = cc
all-at Q (y ∷ ys) all zero x is = subst Q (same_Some y x is) all.0
all-at Q (y ∷ ys) all (suc k) x is = all-at Q ys all.1 k x is

-- an id for each symbol
pub ids-of-table : (f : InputFile) (len : ℕ) → len ≡ symbol_count f → AreIdsOf f len
ids-of-table (prelude symbols) len all = all
ids-of-table (object o) len all = all
ids-of-table (linker_script s) len all = all
ids-of-table (stub_library input symbols) len all = all
ids-of-table synthetic len all = tt

-- a symbol of a file stands where its id says, or in no table
pub record IsThere (fs : List SequencedFile) (k : ℕ) (f : SequencedFile) (id : ℕ) : Type 0 where
  pub ids : AreIdsOf f.file f.symbols.len
  pub before : ℕ
  pub counted : before ≡ count_of (take k fs)
  pub same : slice_get (symbols_of 0 (bare fs)) id ≡ slice_get (file_symbols before f.file) (offset_in f.symbols id)

-- each symbol of each file does
pub is-there : (fs : List SequencedFile) (added : ℕ) → AreNumbered fs added → (k : ℕ) (f : SequencedFile) → slice_get fs k ≡ Some f → (id : ℕ) → IsInside f.symbols id → IsThere fs k f id
is-there fs added h k f is id inside =
    let all : symbols_of 0 (bare fs) ≡ symbols_of 0 (bare h.tabled) = ap (λ (l : List SequencedFile). symbols_of 0 (bare l)) h.joined ∙ tabled-symbols h.tabled h.behind h.others in
    let runs = runs-split 0 h.tabled h.behind (subst (λ (l : List SequencedFile). RunsFrom 0 (spans_of l)) h.joined h.runs) in
    get-split h.tabled h.behind k f (subst (λ (l : List SequencedFile). slice_get l k ≡ Some f) h.joined is)
    (λ here.
    let j = offset_in f.symbols id in
    let r = tabled-stands 0 0 h.tabled h.tables runs.0 k f here j (omega (arith, inside.0, inside.1)) in
    let at : 0 + id ≡ f.symbols.start + j = omega (arith, inside.0) in
    record {
      ids = ids-of-table f.file f.symbols.len (all-at HasIdsForAll h.tabled h.tables k f here);
      before = r.before;
      counted =
          let front : take k (h.tabled ++ h.behind) ≡ take k h.tabled = take-append-le k h.tabled h.behind (omega (arith, slice_get_within h.tabled k f here)) in
          omega (arith, r.counted, ap (λ (l : List SequencedFile). count_of (take k l)) h.joined, ap count_of front);
      same = ap (λ (l : List Symbol). slice_get l id) all ∙ (r.among id at ∙ sym r.here);
    })
    (λ j e there.
    let own = all-at HasNoTable h.behind h.others j f there in
    let from = run-from (0 + id_count h.tabled) h.behind runs.1 j f there in
    let past : length (symbols_of 0 (bare h.tabled)) ≤ id = omega (arith, from, inside.0, tabled-count 0 h.tabled h.tables) in
    record {
      ids = own.1;
      before = count_of (take k fs);
      counted = refl;
      same = ap (λ (l : List Symbol). slice_get l id) all ∙ (slice_get_past (symbols_of 0 (bare h.tabled)) id past ∙ ap (λ (l : List Symbol). slice_get l (offset_in f.symbols id)) (sym (no-symbol (count_of (take k fs)) f.file own.0)));
    })
