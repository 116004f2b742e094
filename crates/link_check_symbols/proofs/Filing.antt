-- The symbols of files one after another.
use Rattle.std.proofs.Common.{◌≡◌, ◌+◌, ◌++◌, ◌∙◌, ℕ, suc, List, [], ◌∷◌, length, map, take, slice_get, Some, Bool, true, false, refl, sym, ap, arith, append_assoc, add-zero, length-take}
use Rattle.std.specs.List.{flat_map}
use Rattle.std.proofs.lemmas.List.{append-nil, map-append, take_more}
use Rattle.std.proofs.lemmas.Option.{get_or_from_slice_get, slice_get_within}
use Rattle.link_input.specs.declared.internal_symbols.InternalSymDefInfo.{InternalSymDefInfo}
use Rattle.link_input.specs.declared.world.ProcessedLinkerScript.{ProcessedLinkerScript}
use Rattle.link_input.specs.declared.world.StubLibrary.{StubLibrary}
use Rattle.link_input.specs.declared.world.StubSymbol.{StubSymbol}
use Rattle.link_input.specs.ObjectFile.{ObjectFile}
use Rattle.link_input.specs.InputFiles.{Batch, InputFile, linker_script, object, prelude, stub_input, stub_symbol}
use Rattle.link_input.specs.Symbols.{Symbol, file_symbols, in_stub, stub_strength, symbol_of, symbols_of}
use Rattle.link_check_symbols.specs.Gathered.{library_symbols, link_symbols, listed_symbol, script_symbols}

-- the first i elements, and the next one
pub next-taken : {X : Type 0} (xs : List X) (i : ℕ) (x : X) → slice_get xs i ≡ Some x → take (i + 1) xs ≡ take i xs ++ x ∷ []
next-taken xs i x at = take_more xs i x (slice_get_within xs i x at) ∙ ap (λ y. take i xs ++ y ∷ []) (get_or_from_slice_get xs i x x at)

-- a list is known, and what is added to it
pub appended : {X : Type 0} {old new xs more seen : List X} → old ≡ xs → seen ≡ more → new ≡ old ++ seen → new ≡ xs ++ more
appended before added is = cc

-- a list grows by what the next element gives
pub grown-by : {X Y : Type 0} (f : X → Y) (xs : List X) (i : ℕ) (x : X) (first so_far : List Y) → slice_get xs i ≡ Some x → so_far ≡ first ++ map f (take i xs)
    → so_far ++ f x ∷ [] ≡ first ++ map f (take (i + 1) xs)
grown-by f xs i x first so_far at is =
    ap (λ l. l ++ f x ∷ []) is ∙ (append_assoc first (map f (take i xs)) (f x ∷ []) ∙ ap (λ l. first ++ l) (sym (ap (map f) (next-taken xs i x at) ∙ map-append f (take i xs) (x ∷ []))))

-- one object more
pub object-more : (n : ℕ) (os : List ObjectFile) (o : ObjectFile) → symbols_of n (map object (os ++ o ∷ [])) ≡ symbols_of n (map object os) ++ file_symbols (n + length os) (object o)
object-more n [] o = append-nil (file_symbols n (object o)) ∙ ap (λ k. file_symbols k (object o)) (sym (add-zero n))
object-more n (p ∷ os) o =
    let places : n + 1 + length os ≡ n + suc (length os) = omega arith in
    ap (λ l. file_symbols n (object p) ++ l) (object-more (n + 1) os o ∙ ap (λ k. symbols_of (n + 1) (map object os) ++ file_symbols k (object o)) places)
    ∙ sym (append_assoc (file_symbols n (object p)) (symbols_of (n + 1) (map object os)) (file_symbols (n + suc (length os)) (object o)))

-- the symbols of the first objects, and of the next one
pub objects-grow : (os : List ObjectFile) (i : ℕ) (o : ObjectFile) (first so_far : List Symbol) → slice_get os i ≡ Some o → so_far ≡ first ++ symbols_of 0 (map object (take i os))
    → so_far ++ file_symbols i (object o) ≡ first ++ symbols_of 0 (map object (take (i + 1) os))
objects-grow os i o first so_far at is =
    let places : 0 + length (take i os) ≡ i = omega (arith, length-take {A = ObjectFile}, slice_get_within os i o at) in
    ap (λ l. l ++ file_symbols i (object o)) is
    ∙ (append_assoc first (symbols_of 0 (map object (take i os))) (file_symbols i (object o)) ∙ ap (λ l. first ++ l)
    (sym (ap (λ l. symbols_of 0 (map object l)) (next-taken os i o at)
    ∙ (object-more 0 (take i os) o ∙ ap (λ k. symbols_of 0 (map object (take i os)) ++ file_symbols k (object o)) places))))

-- the symbols of objects, and those of the files behind them
objects-first : (n : ℕ) (os : List ObjectFile) (fs : List InputFile) → symbols_of n (map object os ++ fs) ≡ symbols_of n (map object os) ++ symbols_of (n + length os) fs
objects-first n [] fs = ap (λ k. symbols_of k fs) (sym (add-zero n))
objects-first n (o ∷ os) fs =
    let places : n + 1 + length os ≡ n + suc (length os) = omega arith in
    ap (λ l. file_symbols n (object o) ++ l) (objects-first (n + 1) os fs ∙ ap (λ k. symbols_of (n + 1) (map object os) ++ symbols_of k fs) places)
    ∙ sym (append_assoc (file_symbols n (object o)) (symbols_of (n + 1) (map object os)) (symbols_of (n + suc (length os)) fs))

-- the symbols of linker scripts, and those of the files behind them
scripts-first : (n : ℕ) (ss : List ProcessedLinkerScript) (fs : List InputFile) → symbols_of n (map linker_script ss ++ fs) ≡ flat_map script_symbols ss ++ symbols_of n fs
scripts-first n [] fs = refl
scripts-first n (s ∷ ss) fs =
    ap (λ k. script_symbols s ++ symbols_of k (map linker_script ss ++ fs)) (add-zero n)
    ∙ (ap (λ l. script_symbols s ++ l) (scripts-first n ss fs) ∙ sym (append_assoc (script_symbols s) (flat_map script_symbols ss) (symbols_of n fs)))

-- the symbols of stub libraries
libraries-are : (n : ℕ) (ss : List StubLibrary) → symbols_of n (map stub_input ss) ≡ flat_map library_symbols ss
libraries-are n [] = refl
libraries-are n (s ∷ ss) = ap (λ k. library_symbols s ++ symbols_of k (map stub_input ss)) (add-zero n) ∙ ap (λ l. library_symbols s ++ l) (libraries-are n ss)

-- all symbols of a link of one batch
pub gathered : (definitions : List InternalSymDefInfo) (b : Batch) → link_symbols definitions b
    ≡ file_symbols 0 (prelude definitions) ++ symbols_of 0 (map object b.objects) ++ flat_map script_symbols b.scripts ++ flat_map library_symbols b.stubs
gathered definitions b =
    let behind = objects-first 0 b.objects (map linker_script b.scripts ++ map stub_input b.stubs)
    ∙ (ap (λ l. symbols_of 0 (map object b.objects) ++ l) (scripts-first (0 + length b.objects) b.scripts (map stub_input b.stubs)
    ∙ ap (λ l. flat_map script_symbols b.scripts ++ l) (libraries-are (0 + length b.objects) b.stubs))) in
    ap (λ l. file_symbols 0 (prelude definitions) ++ l) behind ∙ simp append_assoc

-- a list of names of a stub library
listed : (is_weak : Bool) (names : List (List ℕ)) → map (λ (s : StubSymbol). symbol_of s.name (in_stub (stub_strength s))) (map (stub_symbol is_weak) names) ≡ map (listed_symbol is_weak) names
listed is_weak [] = refl
listed is_weak (name ∷ names) = ap (λ l. listed_symbol is_weak name ∷ l) (listed is_weak names)

mapped : (f : StubSymbol → Symbol) (xs ys : List StubSymbol) → map f (xs ++ ys) ≡ map f xs ++ map f ys
mapped f [] ys = refl
mapped f (x ∷ xs) ys = ap (λ l. f x ∷ l) (mapped f xs ys)

-- the strong names of a stub library, and behind them the weak ones
pub library-is : (s : StubLibrary) → library_symbols s ≡ map (listed_symbol false) s.strong ++ map (listed_symbol true) s.weak
library-is s =
    mapped (λ (t : StubSymbol). symbol_of t.name (in_stub (stub_strength t))) (map (stub_symbol false) s.strong) (map (stub_symbol true) s.weak)
    ∙ (ap (λ l. l ++ map (λ (t : StubSymbol). symbol_of t.name (in_stub (stub_strength t))) (map (stub_symbol true) s.weak)) (listed false s.strong)
    ∙ ap (λ l. map (listed_symbol false) s.strong ++ l) (listed true s.weak))
