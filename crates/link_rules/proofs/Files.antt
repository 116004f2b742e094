-- The files of the stages of a link: their symbols and their counts are those of the files of the batches so far.
use Rattle.std.proofs.Common.{◌≡◌, ℕ, ◌+◌, List, [], ◌∷◌, ◌++◌, Bool, length, map, refl, sym, ◌∙◌, ap, subst, inl, inr, arith, length-append, append-nil}
use Rattle.std.specs.List.{flat_map}
use Rattle.std.proofs.lemmas.Grind.{flat_map-append}
use Rattle.std.proofs.lemmas.List.{append_assoc, length-map}
use Rattle.link_input.specs.declared.options.Options.{Options}
use Rattle.link_input.specs.declared.world.ProcessedLinkerScript.{ProcessedLinkerScript}
use Rattle.link_input.specs.declared.world.StubLibrary.{StubLibrary}
use Rattle.link_input.specs.InputFiles.{Batch, InputFile, prelude, object, linker_script, stub_library, synthetic, stub_input, batch_files, input_files, prelude_file, symbol_count, object_count}
use Rattle.link_input.specs.Limits.{counts_of, total}
use Rattle.link_input.specs.ObjectFile.{ObjectFile}
use Rattle.link_input.specs.Symbols.{Symbol, file_symbols, symbols_of}
use Rattle.link_rules.specs.World.{World, Stage, first_stage, start_of, with_batch}
use Rattle.link_rules.specs.Marking.{ended}
use Rattle.link_rules.specs.Selection.{selection_of}
use Rattle.link_rules.specs.Refusals.{counts_at}
use Rattle.link_rules.specs.Work.{ComesTo, IsStageOf}

-- how many objects there are among files
abbrev objects_in : List InputFile → ℕ
objects_in fs = total object_count fs

-- a sum over two lists
total-append : (f : InputFile → ℕ) (xs ys : List InputFile) → total f (xs ++ ys) ≡ total f xs + total f ys
total-append f [] ys = omega arith
total-append f (x ∷ xs) ys = let rest = total-append f xs ys in omega (arith, rest)

-- the symbols of two lists of files
symbols-append : (n : ℕ) (fs gs : List InputFile) → symbols_of n (fs ++ gs) ≡ symbols_of n fs ++ symbols_of (n + objects_in fs) gs
symbols-append n [] gs =
    let same : n ≡ n + 0 = omega arith in
    ap (λ m. symbols_of m gs) same
symbols-append n (f ∷ fs) gs =
    let same : n + object_count f + objects_in fs ≡ n + (object_count f + objects_in fs) = omega arith in
    ap (λ xs. file_symbols n f ++ xs) (symbols-append (n + object_count f) fs gs ∙ ap (λ m. symbols_of (n + object_count f) fs ++ symbols_of m gs) same)
    ∙ sym (append_assoc (file_symbols n f) (symbols_of (n + object_count f) fs) (symbols_of (n + (object_count f + objects_in fs)) gs))

-- each object is one
ones : (os : List ObjectFile) → objects_in (map object os) ≡ length os
ones [] = refl
ones (o ∷ os) = let rest = ones os in omega (arith, rest)

-- linker scripts are no objects
no_scripts : (ss : List ProcessedLinkerScript) → objects_in (map linker_script ss) ≡ 0
no_scripts [] = refl
no_scripts (s ∷ ss) = let rest = no_scripts ss in omega (arith, rest)

-- nor are stub libraries
no_stubs : (ls : List StubLibrary) → objects_in (map stub_input ls) ≡ 0
no_stubs [] = refl
no_stubs (l ∷ ls) = let rest = no_stubs ls in omega (arith, rest)

-- the objects of a batch
batch-objects : (b : Batch) → objects_in (batch_files b) ≡ length b.objects
batch-objects b = omega (
  arith,
  total-append object_count (map object b.objects) (map linker_script b.scripts ++ map stub_input b.stubs),
  total-append object_count (map linker_script b.scripts) (map stub_input b.stubs),
  ones b.objects,
  no_scripts b.scripts,
  no_stubs b.stubs,
)

-- a file has as many symbols as are counted
file-counted : (n : ℕ) (f : InputFile) → length (file_symbols n f) ≡ symbol_count f
file-counted n (prelude symbols) = length-map symbols _
file-counted n (object o) = length-map o.object.symbols _
file-counted n (linker_script s) = length-map s.symbol_defs _
file-counted n (stub_library input symbols) = length-map symbols _
file-counted n synthetic = refl

-- so have files
files-counted : (n : ℕ) (fs : List InputFile) → length (symbols_of n fs) ≡ total symbol_count fs
files-counted n [] = refl
files-counted n (f ∷ fs) = omega (arith, length-append (file_symbols n f) (symbols_of (n + object_count f) fs), file-counted n f, files-counted (n + object_count f) fs)

-- ---- stages

-- a stage has the files of these batches
pub record HasFiles (options : Options) (batches : List Batch) (w : Stage) : Type 0 where
  pub same_options : w.options ≡ options
  pub symbols : w.symbols ≡ symbols_of 0 (input_files options batches)
  pub objects : w.objects ≡ flat_map (λ b. b.objects) batches
  pub scripts : w.scripts ≡ flat_map (λ b. b.scripts) batches
  pub stubs : w.stubs ≡ flat_map (λ b. b.stubs) batches

-- how many objects the files of batches are
files-objects : (options : Options) (batches : List Batch) → objects_in (input_files options batches) ≡ length (flat_map (λ b. b.objects) batches)
files-objects options batches = let rest = by_batches batches in omega (arith, rest)
  where
    by_batches : (bs : List Batch) → objects_in (flat_map batch_files bs) ≡ length (flat_map (λ b. b.objects) bs)
    by_batches [] = refl
    by_batches (b ∷ bs) = omega (
      arith,
      total-append object_count (batch_files b) (flat_map batch_files bs),
      batch-objects b,
      by_batches bs,
      length-append b.objects (flat_map (λ c. c.objects) bs),
    )

-- the files of one batch more
files-more : (options : Options) (batches : List Batch) (b : Batch) → input_files options (batches ++ b ∷ []) ≡ input_files options batches ++ batch_files b
files-more options batches b =
    ap (λ fs. prelude_file options ∷ fs) (flat_map-append batch_files batches (b ∷ []) ∙ ap (λ fs. flat_map batch_files batches ++ fs) (append-nil (batch_files b)))

-- what each of one batch more has
more : {A : Type 0} (f : Batch → List A) (batches : List Batch) (b : Batch) → flat_map f (batches ++ b ∷ []) ≡ flat_map f batches ++ f b
more f batches b = flat_map-append f batches (b ∷ []) ∙ ap (λ xs. flat_map f batches ++ xs) (append-nil (f b))

-- before any batch there is the prelude
pub starts : (world : World) → HasFiles world.options [] (start_of world)
starts world = record {
  same_options = refl;
  symbols = sym (append-nil (file_symbols 0 (prelude_file world.options)));
  objects = refl;
  scripts = refl;
  stubs = refl;
}

-- a batch brings its files
pub grows : (options : Options) (batches : List Batch) (w : Stage) (b : Batch) → HasFiles options batches w → HasFiles options (batches ++ b ∷ []) (with_batch w b)
grows options batches w b has = record {
  same_options = has.same_options;
  symbols =
      let many : length w.objects ≡ 0 + objects_in (input_files options batches) = omega (arith, ap (λ (os : List ObjectFile). length os) has.objects, files-objects options batches) in
      ap (λ xs. xs ++ symbols_of (length w.objects) (batch_files b)) has.symbols
      ∙ ap (λ n. symbols_of 0 (input_files options batches) ++ symbols_of n (batch_files b)) many
      ∙ sym (symbols-append 0 (input_files options batches) (batch_files b))
      ∙ sym (ap (symbols_of 0) (files-more options batches b));
  objects = ap (λ xs. xs ++ b.objects) has.objects ∙ sym (more (λ c. c.objects) batches b);
  scripts = ap (λ xs. xs ++ b.scripts) has.scripts ∙ sym (more (λ c. c.scripts) batches b);
  stubs = ap (λ xs. xs ++ b.stubs) has.stubs ∙ sym (more (λ c. c.stubs) batches b);
}

-- the end of a batch brings none
pub stays : (options : Options) (batches : List Batch) (w : Stage) (marks : List Bool) → HasFiles options batches w → HasFiles options batches (ended (selection_of w marks))
stays options batches w marks has = record { same_options = has.same_options; symbols = has.symbols; objects = has.objects; scripts = has.scripts; stubs = has.stubs }

-- some of the batches are those of a stage
abbrev SomeBatches : Options → List Batch → Stage → Type 0
SomeBatches options all w = (some rest : List Batch) × (all ≡ some ++ rest) × HasFiles options some w

-- two lists and one element between them
between : (xs : List Batch) (b : Batch) (ys : List Batch) → xs ++ b ∷ ys ≡ (xs ++ b ∷ []) ++ ys
between xs b ys = sym (append_assoc xs (b ∷ []) ys)

-- a stage to which a link comes has the files of the batches so far
comes : (options : Options) (done : List Batch) (before : Stage) (b : Batch) (later : List Batch) (w : Stage) → HasFiles options done before
    → ComesTo before b later w → SomeBatches options (done ++ b ∷ later) w
comes options done before b [] w has to =
    (done ++ b ∷ [], [], between done b [], subst (HasFiles options (done ++ b ∷ [])) (sym to) (grows options done before b has))
comes options done before b (c ∷ cs) w has (inl to) =
    (done ++ b ∷ [], c ∷ cs, between done b (c ∷ cs), subst (HasFiles options (done ++ b ∷ [])) (sym to) (grows options done before b has))
comes options done before b (c ∷ cs) w has (inr on) =
    let found = comes options (done ++ b ∷ []) (ended (selection_of (with_batch before b) on.0)) c cs w
    (stays options (done ++ b ∷ []) (with_batch before b) on.0 (grows options done before b has)) on.2 in
    (found.0, found.1, between done b (c ∷ cs) ∙ found.2, found.3)

-- the counts of a stage are those of its batches
pub counts-same : (options : Options) (batches : List Batch) (w : Stage) → HasFiles options batches w → counts_at w ≡ counts_of options batches
counts-same options batches w has =
    let many : length w.symbols ≡ total symbol_count (input_files options batches) =
    ap (λ (xs : List Symbol). length xs) has.symbols ∙ files-counted 0 (input_files options batches) in
    rw (has.same_options, has.objects, has.scripts, has.stubs, many) refl

-- a stage of a link has the symbols and the counts of the files of the batches so far
pub stage-files : (world : World) (w : Stage) → IsStageOf world w
    → (some rest : List Batch) × (world.first ∷ world.later ≡ some ++ rest) × (w.symbols ≡ symbols_of 0 (input_files world.options some))
    × (counts_at w ≡ counts_of world.options some)
stage-files world w to =
    let found = comes world.options [] (start_of world) world.first world.later w (starts world) to in
    (found.0, found.1, found.2, found.3.symbols, counts-same world.options found.0 w found.3)

-- with its first batch a link has the symbols of the files of that batch
pub first-symbols : (world : World) → (first_stage world).symbols ≡ symbols_of 0 (input_files world.options (world.first ∷ []))
first-symbols world = (grows world.options [] (start_of world) world.first (starts world)).symbols

-- and their counts
pub first-counts : (world : World) → counts_at (first_stage world) ≡ counts_of world.options (world.first ∷ [])
first-counts world = counts-same world.options (world.first ∷ []) (first_stage world) (grows world.options [] (start_of world) world.first (starts world))
