-- All symbols of a file stand at one place.
use Rattle.std.proofs.Common.{◌≡◌, ◌+◌, ◌++◌, ◌∙◌, ℕ, List, [], ◌∷◌, Some, drop, length, map, replicate, slice_get, ap, refl, sym}
use Rattle.std.proofs.lemmas.List.{append_assoc, map-append}
use Rattle.link_input_groups.proofs.FileTotals.{drop-at}
use Rattle.link_input.specs.InputFiles.{InputFile, prelude, object, linker_script, stub_library, synthetic, object_count, symbol_count}
use Rattle.link_input.specs.SequencedFiles.{SequencedFile}
use Rattle.link_input.specs.Symbols.{Symbol, file_symbols, symbols_of}
use Rattle.link_db_files.specs.declared.sources.SymbolSource.{SymbolSource}
use Rattle.link_db_files.specs.Sources.{file_source, source_of, sources_of}
use Rattle.link_db_files.proofs.Numbered.{bare}

-- symbols that are made alike stand at one place
pub made-alike : {A : Type 0} (make : A → Symbol) (source : SymbolSource) → ((x : A) → source_of (make x) ≡ source) → (xs : List A)
    → sources_of (map make xs) ≡ replicate (length xs) source
made-alike make source each [] = refl
made-alike make source each (x ∷ xs) =
    ap (λ s. s ∷ sources_of (map make xs)) (each x) ∙ ap (λ ss. source ∷ ss) (made-alike make source each xs)

-- so do those of a file
pub of-one-file : (n : ℕ) (f : InputFile) → sources_of (file_symbols n f) ≡ replicate (symbol_count f) (file_source n f)
of-one-file n (prelude symbols) = made-alike _ (file_source n (prelude symbols)) (λ d. refl) symbols
of-one-file n (object o) = made-alike _ (file_source n (object o)) (λ e. refl) o.object.symbols
of-one-file n (linker_script s) = made-alike _ (file_source n (linker_script s)) (λ d. refl) s.symbol_defs
of-one-file n (stub_library input symbols) = made-alike _ (file_source n (stub_library input symbols)) (λ s. refl) symbols
of-one-file n synthetic = refl

-- a file more, of those whose symbols stand somewhere
pub sources-more : (files : List SequencedFile) (i n m : ℕ) (f : SequencedFile) (old new all : List SymbolSource) → slice_get files i ≡ Some f
    → new ≡ old ++ sources_of (file_symbols n f.file) → m ≡ n + object_count f.file
    → old ++ sources_of (symbols_of n (bare (drop i files))) ≡ all → new ++ sources_of (symbols_of m (bare (drop (i + 1) files))) ≡ all
sources-more files i n m f old new all at more on before =
    let rest = bare (drop (i + 1) files) in
    ap (λ k. new ++ sources_of (symbols_of k rest)) on
    ∙ (ap (λ (l : List SymbolSource). l ++ sources_of (symbols_of (n + object_count f.file) rest)) more
    ∙ (append_assoc old (sources_of (file_symbols n f.file)) (sources_of (symbols_of (n + object_count f.file) rest))
    ∙ (ap (λ (l : List SymbolSource). old ++ l) (sym (map-append source_of (file_symbols n f.file) (symbols_of (n + object_count f.file) rest)))
    ∙ (ap (λ (l : List SequencedFile). old ++ sources_of (symbols_of n (bare l))) (sym (drop-at files i f at)) ∙ before))))
