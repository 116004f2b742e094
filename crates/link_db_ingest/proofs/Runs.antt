-- What the symbols of files define, and their flags, where the ids of the files run on.
use Rattle.std.proofs.Common.{◌≡◌, ℕ, ◌+◌, suc, List, [], ◌∷◌, ◌++◌, length, map, refl, sym, ap, ◌∙◌, append_assoc, arith}
use Rattle.std.specs.List.{flat_map, AllByRecursion}
use Rattle.std.proofs.lemmas.List.{map-append}
use Rattle.link_db_buckets.specs.declared.definition.Definition.{Definition}
use Rattle.link_input.specs.declared.symbol_entry.SymbolEntry.{SymbolEntry}
use Rattle.link_input.specs.InputFiles.{InputFile, prelude, object, linker_script, stub_library, synthetic, object_count}
use Rattle.link_input.specs.ObjectFile.{ObjectFile}
use Rattle.link_input.specs.SequencedFiles.{SequencedFile}
use Rattle.link_input.specs.Symbols.{Symbol, file_symbols, object_symbol, symbols_of}
use Rattle.link_input_groups.specs.Asked.{HasIdsForAll}
use Rattle.link_input_groups.specs.Groups.{RunsFrom}
use Rattle.link_input_groups.proofs.Numbering.{own-symbols}
use Rattle.link_rules.specs.Opening.{opening_flags}
use Rattle.link_rules.specs.World.{Stage}
use Rattle.link_db_ingest.specs.Definitions.{definitions_by, definitions_from}
use Rattle.link_db_ingest.specs.Files.{file_definitions, file_flags}

-- symbols and those behind them define what the first define, and what the others do from the next id on
pub definitions-append : (n : ℕ) (xs ys : List Symbol) → definitions_from n (xs ++ ys) ≡ definitions_from n xs ++ definitions_from (n + length xs) ys
definitions-append n [] ys = let e : n ≡ n + 0 = omega arith in ap (λ (k : ℕ). definitions_from k ys) e
definitions-append n (x ∷ xs) ys =
    let e : n + 1 + length xs ≡ n + suc (length xs) = omega arith in
    ap (λ (ds : List Definition). definitions_by n x ++ ds)
    (definitions-append (n + 1) xs ys ∙ ap (λ (k : ℕ). definitions_from (n + 1) xs ++ definitions_from k ys) e)
    ∙ sym (append_assoc (definitions_by n x) (definitions_from (n + 1) xs) (definitions_from (n + suc (length xs)) ys))

-- the number of an object doesn't show in what its entries define
object-definitions : (n k m : ℕ) (o : ObjectFile) (es : List SymbolEntry)
    → definitions_from n (map (object_symbol k o) es) ≡ definitions_from n (map (object_symbol m o) es)
object-definitions n k m o [] = refl
object-definitions n k m o (e ∷ es) =
    ap (λ (ds : List Definition). definitions_by n (object_symbol k o e) ++ ds) (object-definitions (n + 1) k m o es)

-- nor in what a file defines
pub own-definitions : (n k m : ℕ) (f : InputFile) → definitions_from n (file_symbols k f) ≡ definitions_from n (file_symbols m f)
own-definitions n k m (prelude symbols) = refl
own-definitions n k m (object o) = object-definitions n k m o o.object.symbols
own-definitions n k m (linker_script s) = refl
own-definitions n k m (stub_library input symbols) = refl
own-definitions n k m synthetic = refl

-- the number of an object doesn't show in the flags of its entries
object-flags : (w : Stage) (k m : ℕ) (o : ObjectFile) (es : List SymbolEntry)
    → map (opening_flags w) (map (object_symbol k o) es) ≡ map (opening_flags w) (map (object_symbol m o) es)
object-flags w k m o [] = refl
object-flags w k m o (e ∷ es) = ap (λ (fs : List ℕ). opening_flags w (object_symbol k o e) ∷ fs) (object-flags w k m o es)

-- nor in those of a file
pub own-flags : (w : Stage) (k m : ℕ) (f : InputFile) → map (opening_flags w) (file_symbols k f) ≡ map (opening_flags w) (file_symbols m f)
own-flags w k m (prelude symbols) = refl
own-flags w k m (object o) = object-flags w k m o o.object.symbols
own-flags w k m (linker_script s) = refl
own-flags w k m (stub_library input symbols) = refl
own-flags w k m synthetic = refl

-- files whose ids run on define what all their symbols do
pub all-definitions : (n k : ℕ) (files : List SequencedFile) → RunsFrom n (map (λ f. f.symbols) files) → AllByRecursion HasIdsForAll files
    → flat_map file_definitions files ≡ definitions_from n (symbols_of k (map (λ f. f.file) files))
all-definitions n k [] runs tables = refl
all-definitions n k (f ∷ fs) runs tables =
    let rest = symbols_of (k + object_count f.file) (map (λ (f : SequencedFile). f.file) fs) in
    let count : f.symbols.len ≡ length (file_symbols k f.file) = tables.0 ∙ own-symbols k f.file in
    ap (λ (s : ℕ). definitions_from s (file_symbols 0 f.file) ++ flat_map file_definitions fs) runs.0
    ∙ ap (λ (ds : List Definition). ds ++ flat_map file_definitions fs) (own-definitions n 0 k f.file)
    ∙ ap (λ (ds : List Definition). definitions_from n (file_symbols k f.file) ++ ds)
    (all-definitions (n + f.symbols.len) (k + object_count f.file) fs runs.1 tables.1 ∙ ap (λ (c : ℕ). definitions_from (n + c) rest) count)
    ∙ sym (definitions-append n (file_symbols k f.file) rest)

-- the flags of files are those of all their symbols
pub all-flags : (w : Stage) (k : ℕ) (files : List SequencedFile)
    → flat_map (file_flags w) files ≡ map (opening_flags w) (symbols_of k (map (λ f. f.file) files))
all-flags w k [] = refl
all-flags w k (f ∷ fs) =
    let rest = symbols_of (k + object_count f.file) (map (λ (f : SequencedFile). f.file) fs) in
    ap (λ (xs : List ℕ). xs ++ flat_map (file_flags w) fs) (own-flags w 0 k f.file)
    ∙ ap (λ (xs : List ℕ). map (opening_flags w) (file_symbols k f.file) ++ xs) (all-flags w (k + object_count f.file) fs)
    ∙ sym (map-append (opening_flags w) (file_symbols k f.file) rest)
