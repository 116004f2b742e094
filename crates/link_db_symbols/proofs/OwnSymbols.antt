-- The objects among files, each with its symbols: they are those of all symbols that stand in it.
use Rattle.std.proofs.Common.{◌≡◌, ◌+◌, ◌<◌, ◌≤◌, ◌++◌, ◌∙◌, ℕ, zero, suc, List, [], ◌∷◌, Bool, true, false, Some, None, cond, length, map, filter, slice_get, refl, sym, ap, arith, length-append, length-drop}
use Rattle.std.specs.Prelude.{◌==◌, ◌-◌, drop, take}
use Rattle.std.specs.List.{cons_option, enumerate_from}
use Rattle.std.proofs.lemmas.Bool.Decides.{nat_tests}
use Rattle.std.proofs.lemmas.List.{append-nil, append_assoc, length-take-le}
use Rattle.std.proofs.lemmas.List.Elements.{filter-append}
use Rattle.std.proofs.lemmas.Option.{same_Some}
use Rattle.link_input.specs.InputFiles.{InputFile, prelude, object, linker_script, stub_library, synthetic, object_count, symbol_count}
use Rattle.link_input.specs.ObjectFile.{ObjectFile}
use Rattle.link_input.specs.SequencedFiles.{SequencedFile}
use Rattle.link_input.specs.Symbols.{Symbol, in_prelude, in_script, in_stub, symbol_of, object_symbol, stub_strength, file_symbols, symbols_of, object_in}
use Rattle.link_input_groups.proofs.Numbering.{own-symbols}
use Rattle.link_rules.specs.Places.{is_number}
use Rattle.link_db_files.specs.Inputs.{object_of}
use Rattle.link_db_symbols.specs.Walk.{SymbolsLeft, objects_among, own_symbols, symbols_of_object, with_ids, without_ids}

-- whether a symbol with its id stands in the object at this place
abbrev pub stands_in : ℕ → ℕ × Symbol → Bool
stands_in f s = is_number (object_in s.1.origin) f

-- the ids of two lists of symbols, one behind the other
enumerate-append : {X : Type 0} (n : ℕ) (xs ys : List X) → enumerate_from n (xs ++ ys) ≡ enumerate_from n xs ++ enumerate_from (n + length xs) ys
enumerate-append n [] ys = let same : n ≡ n + 0 = omega arith in ap (λ m. enumerate_from m ys) same
enumerate-append n (x ∷ xs) ys =
    let next : n + 1 + length xs ≡ n + length (x ∷ xs) = omega arith in
    ap (λ l. (n, x) ∷ l) (enumerate-append (n + 1) xs ys ∙ ap (λ m. enumerate_from (n + 1) xs ++ enumerate_from m ys) next)

module _ {X : Type 0} (make : X → Symbol) (f : ℕ) where
  -- none of these symbols stands there
  none-there : ((x : X) → is_number (object_in (make x).origin) f ≡ false) → (s : ℕ) (xs : List X) → filter (stands_in f) (enumerate_from s (map make xs)) ≡ []
  none-there other s [] = refl
  none-there other s (x ∷ xs) =
      ap (λ b. cond b ((s, make x) ∷ filter (stands_in f) (enumerate_from (s + 1) (map make xs))) (filter (stands_in f) (enumerate_from (s + 1) (map make xs)))) (other x)
      ∙ none-there other (s + 1) xs

  -- all of them do
  all-there : ((x : X) → is_number (object_in (make x).origin) f ≡ true) → (s : ℕ) (xs : List X) → filter (stands_in f) (enumerate_from s (map make xs)) ≡ enumerate_from s (map make xs)
  all-there own s [] = refl
  all-there own s (x ∷ xs) =
      ap (λ b. cond b ((s, make x) ∷ filter (stands_in f) (enumerate_from (s + 1) (map make xs))) (filter (stands_in f) (enumerate_from (s + 1) (map make xs)))) (own x)
      ∙ ap (λ l. (s, make x) ∷ l) (all-there own (s + 1) xs)

-- a number is not another one
other_number : (n f : ℕ) → n < f → (n == f) ≡ false
other_number n f lt = grind (arith, nat_tests)

-- it is itself
same_number : (n f : ℕ) → n ≡ f → (n == f) ≡ true
same_number n f is = grind (arith, nat_tests)

-- an object before the one at f has no symbol there
object-other : (n f s : ℕ) (o : ObjectFile) → n < f → filter (stands_in f) (enumerate_from s (file_symbols n (object o))) ≡ []
object-other n f s o lt = none-there (object_symbol n o) f (λ e. other_number n f lt) s o.object.symbols

-- that at f has all of its own there
object-own : (n f s : ℕ) (o : ObjectFile) → n ≡ f → filter (stands_in f) (enumerate_from s (file_symbols n (object o))) ≡ enumerate_from s (file_symbols n (object o))
object-own n f s o is = all-there (object_symbol n o) f (λ e. same_number n f is) s o.object.symbols

-- a file that is no object has no symbol in an object
others-there : (n f s : ℕ) (file : InputFile) → object_of file ≡ None → filter (stands_in f) (enumerate_from s (file_symbols n file)) ≡ []
others-there n f s (prelude symbols) none = none-there (λ d. symbol_of d.name (in_prelude d)) f (λ d. refl) s symbols
others-there n f s (object o) none = cc
others-there n f s (linker_script script) none = none-there (λ d. symbol_of d.name (in_script d)) f (λ d. refl) s script.symbol_defs
others-there n f s (stub_library input symbols) none = none-there (λ t. symbol_of t.name (in_stub (stub_strength t))) f (λ t. refl) s symbols
others-there n f s synthetic none = refl

-- a file and those behind it
there-append : (n f s : ℕ) (file : InputFile) (files : List InputFile) → filter (stands_in f) (enumerate_from s (symbols_of n (file ∷ files)))
    ≡ filter (stands_in f) (enumerate_from s (file_symbols n file)) ++ filter (stands_in f) (enumerate_from (s + length (file_symbols n file)) (symbols_of (n + object_count file) files))
there-append n f s file files =
    ap (filter (stands_in f)) (enumerate-append s (file_symbols n file) (symbols_of (n + object_count file) files))
    ∙ filter-append (stands_in f) (enumerate_from s (file_symbols n file)) (enumerate_from (s + length (file_symbols n file)) (symbols_of (n + object_count file) files))

-- files behind the object at f have no symbol there
none-behind : (n f s : ℕ) (files : List InputFile) → f < n → filter (stands_in f) (enumerate_from s (symbols_of n files)) ≡ []
none-behind n f s [] lt = refl
none-behind n f s (file ∷ files) lt =
    there-append n f s file files
    ∙ (ap (λ l. l ++ filter (stands_in f) (enumerate_from (s + length (file_symbols n file)) (symbols_of (n + object_count file) files))) (own file)
    ∙ none-behind (n + object_count file) f (s + length (file_symbols n file)) files (omega arith))
  where
    differs : (n == f) ≡ false
    differs = grind (arith, nat_tests)

    own : (file : InputFile) → filter (stands_in f) (enumerate_from s (file_symbols n file)) ≡ []
    own (prelude symbols) = others-there n f s (prelude symbols) refl
    own (object o) = none-there (object_symbol n o) f (λ e. differs) s o.object.symbols
    own (linker_script script) = others-there n f s (linker_script script) refl
    own (stub_library input symbols) = others-there n f s (stub_library input symbols) refl
    own synthetic = refl

-- ---- the objects among files

-- the symbols of each object among files, before which there are so many objects and symbols
abbrev pub objects_from : ℕ → ℕ → List InputFile → List SymbolsLeft
objects_from n s [] = []
objects_from n s (file ∷ files) = own_symbols n s file ++ objects_from (n + object_count file) (s + symbol_count file) files

-- the object at each place has just the symbols that stand in it
objects-have : (n s : ℕ) (files : List InputFile) (k : ℕ) (o : SymbolsLeft) → slice_get (objects_from n s files) k ≡ Some o
    → with_ids o ≡ filter (stands_in (n + k)) (enumerate_from s (symbols_of n files))
objects-have n s [] k o at = cc
objects-have n s (file ∷ files) k o at = by_file (λ m t j is. objects-have m t files j o is) file at
  where
    -- what holds of the objects behind
    Later : Type 0
    Later = (m t j : ℕ) → slice_get (objects_from m t files) j ≡ Some o → with_ids o ≡ filter (stands_in (m + j)) (enumerate_from t (symbols_of m files))

    behind : Later → (file : InputFile) (m : ℕ) → m ≡ n + k → filter (stands_in m) (enumerate_from s (file_symbols n file)) ≡ []
        → (j : ℕ) → n + object_count file + j ≡ n + k → slice_get (objects_from (n + object_count file) (s + symbol_count file) files) j ≡ Some o
        → with_ids o ≡ filter (stands_in (n + k)) (enumerate_from s (symbols_of n (file ∷ files)))
    behind later file m same none j place at =
        later (n + object_count file) (s + symbol_count file) j at
        ∙ (ap (λ i. filter (stands_in i) (enumerate_from (s + symbol_count file) (symbols_of (n + object_count file) files))) place
        ∙ (ap (λ c. filter (stands_in (n + k)) (enumerate_from (s + c) (symbols_of (n + object_count file) files))) (own-symbols n file)
        ∙ sym (there-append n (n + k) s file files
        ∙ ap (λ l. l ++ filter (stands_in (n + k)) (enumerate_from (s + length (file_symbols n file)) (symbols_of (n + object_count file) files)))
        (sym (ap (λ i. filter (stands_in i) (enumerate_from s (file_symbols n file))) same) ∙ none))))

    of_object : Later → (p : ObjectFile) (j : ℕ) → j ≡ k → slice_get (objects_from n s (object p ∷ files)) j ≡ Some o
        → with_ids o ≡ filter (stands_in (n + k)) (enumerate_from s (symbols_of n (object p ∷ files)))
    of_object later p zero same at =
        let itself : n ≡ n + k = omega arith in
        ap with_ids (sym (same_Some _ o at))
        ∙ sym (there-append n (n + k) s (object p) files
        ∙ (ap (λ l. l ++ filter (stands_in (n + k)) (enumerate_from (s + length (file_symbols n (object p))) (symbols_of (n + 1) files))) (object-own n (n + k) s p itself)
        ∙ (ap (λ l. enumerate_from s (file_symbols n (object p)) ++ l) (none-behind (n + 1) (n + k) (s + length (file_symbols n (object p))) files (omega arith))
        ∙ append-nil (enumerate_from s (file_symbols n (object p))))))
    of_object later p (suc j) same at = behind later (object p) (n + k) refl (object-other n (n + k) s p (omega arith)) j (omega arith) at

    by_file : Later → (file : InputFile) → slice_get (objects_from n s (file ∷ files)) k ≡ Some o → with_ids o ≡ filter (stands_in (n + k)) (enumerate_from s (symbols_of n (file ∷ files)))
    by_file later (prelude symbols) at = behind later (prelude symbols) (n + k) refl (others-there n (n + k) s (prelude symbols) refl) k (omega arith) at
    by_file later (object p) at = of_object later p k refl at
    by_file later (linker_script script) at = behind later (linker_script script) (n + k) refl (others-there n (n + k) s (linker_script script) refl) k (omega arith) at
    by_file later (stub_library input symbols) at = behind later (stub_library input symbols) (n + k) refl (others-there n (n + k) s (stub_library input symbols) refl) k (omega arith) at
    by_file later synthetic at = behind later synthetic (n + k) refl refl k (omega arith) at

-- each object of files has just the symbols that stand in it
pub own-symbols-are : (files : List InputFile) (k : ℕ) (o : SymbolsLeft) → slice_get (objects_from 0 0 files) k ≡ Some o → with_ids o ≡ symbols_of_object k (symbols_of 0 files)
own-symbols-are files k o at =
    let same : 0 + k ≡ k = omega arith in
    objects-have 0 0 files k o at ∙ ap (λ f. filter (stands_in f) (enumerate_from 0 (symbols_of 0 files))) same

-- there are as many as objects
pub objects-counted : (n s : ℕ) (files : List SequencedFile) → length (objects_from n s (without_ids files)) ≡ length (objects_among files)
objects-counted n s [] = refl
objects-counted n s (f ∷ fs) = by_file (λ m t. objects-counted m t fs) f.file
  where
    by_file : ((m t : ℕ) → length (objects_from m t (without_ids fs)) ≡ length (objects_among fs)) → (file : InputFile) → length (own_symbols n s file ++ objects_from (n + object_count file) (s + symbol_count file) (without_ids fs))
        ≡ length (cons_option (object_of file) (objects_among fs))
    by_file later (prelude symbols) = later (n + 0) (s + length symbols)
    by_file later (object p) = ap suc (later (n + 1) (s + length p.object.symbols))
    by_file later (linker_script script) = later (n + 0) (s + length script.symbol_defs)
    by_file later (stub_library input symbols) = later (n + 0) (s + length symbols)
    by_file later synthetic = later (n + 0) (s + 0)

-- a file has its symbols as an object once, if it is one
pub own-count : (n s : ℕ) (file : InputFile) → length (own_symbols n s file) ≡ object_count file
own-count n s (prelude symbols) = refl
own-count n s (object p) = refl
own-count n s (linker_script script) = refl
own-count n s (stub_library input symbols) = refl
own-count n s synthetic = refl

-- one file more
pub objects-more : (items new all : List SymbolsLeft) (first next : ℕ) (files rest : List SequencedFile) (f : SequencedFile) → files ≡ f ∷ rest
    → new ≡ items ++ own_symbols (length items) first f.file → next ≡ first + symbol_count f.file
    → items ++ objects_from (length items) first (without_ids files) ≡ all → new ++ objects_from (length new) next (without_ids rest) ≡ all
objects-more items new all first next files rest f is more on before =
    let own = own_symbols (length items) first f.file in
    let count : length new ≡ length items + object_count f.file = ap length more ∙ (length-append items own ∙ ap (λ n. length items + n) (own-count (length items) first f.file)) in
    ap (λ n. new ++ objects_from n next (without_ids rest)) count
    ∙ (ap (λ n. new ++ objects_from (length items + object_count f.file) n (without_ids rest)) on
    ∙ (ap (λ l. l ++ objects_from (length items + object_count f.file) (first + symbol_count f.file) (without_ids rest)) more
    ∙ (append_assoc items own (objects_from (length items + object_count f.file) (first + symbol_count f.file) (without_ids rest))
    ∙ (ap (λ (l : List SequencedFile). items ++ objects_from (length items) first (without_ids l)) (sym is) ∙ before))))

-- a part has as many symbols as places
pub part-length : (xs : List Symbol) (start end : ℕ) → end ≤ length xs → length (take (end - start) (drop start xs)) ≡ end - start
part-length xs start end inside = length-take-le (end - start) (drop start xs) (omega (arith, inside, length-drop start xs))

-- the symbol at a place of a part
pub part-at : (xs : List Symbol) (start count at : ℕ) → at < count → slice_get (take count (drop start xs)) at ≡ slice_get xs (start + at)
part-at xs start count at lt = of-taken (drop start xs) count at lt ∙ of-left xs start at
  where
    of-taken : (ys : List Symbol) (n i : ℕ) → i < n → slice_get (take n ys) i ≡ slice_get ys i
    of-taken ys zero i lt = absurd (omega (arith, lt))
    of-taken [] (suc n) i lt = refl
    of-taken (y ∷ ys) (suc n) zero lt = refl
    of-taken (y ∷ ys) (suc n) (suc i) lt = of-taken ys n i (omega (arith, lt))

    of-left : (ys : List Symbol) (k i : ℕ) → slice_get (drop k ys) i ≡ slice_get ys (k + i)
    of-left ys zero i = let e : i ≡ 0 + i = omega arith in ap (slice_get ys) e
    of-left [] (suc k) i = refl
    of-left (y ∷ ys) (suc k) i = let e : suc (k + i) ≡ suc k + i = omega arith in of-left ys k i ∙ ap (slice_get (y ∷ ys)) e
