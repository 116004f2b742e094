-- The ids of the symbols of files are places in the list of all symbols.
use Rattle.std.proofs.Common.{◌≡◌, ℕ, zero, suc, ◌+◌, List, [], ◌∷◌, length, take, Some, slice_get, refl, ap, subst, arith, length-append}
use Rattle.std.proofs.lemmas.List.{length-map}
use Rattle.std.proofs.lemmas.Option.{same_Some}
use Rattle.link_input.specs.InputFiles.{InputFile, prelude, object, linker_script, stub_library, synthetic, object_count, section_count, symbol_count}
use Rattle.link_input.specs.SequencedFiles.{SequencedFile, file_sections, sequenced}
use Rattle.link_input.specs.Symbols.{file_symbols, symbols_of}

-- each symbol of a file is counted
pub own-symbols : (n : ℕ) (f : InputFile) → symbol_count f ≡ length (file_symbols n f)
own-symbols n (prelude symbols) = rw length-map refl
own-symbols n (object o) = rw length-map refl
own-symbols n (linker_script s) = rw length-map refl
own-symbols n (stub_library input symbols) = rw length-map refl
own-symbols n synthetic = refl

pub length-sequenced : (s c : ℕ) (fs : List InputFile) → length (sequenced s c fs) ≡ length fs
length-sequenced s c [] = refl
length-sequenced s c (f ∷ fs) = ap suc (length-sequenced (s + symbol_count f) (c + section_count f) fs)

-- a file, and the numbers of its symbols
abbrev pub first_of_files : ℕ → ℕ → InputFile → SequencedFile
first_of_files s c f = record { file = f; symbols = record { start = s; len = symbol_count f }; sections = file_sections c f }

pub file-at : (s c : ℕ) (fs : List InputFile) (k : ℕ) (f : SequencedFile) → slice_get (sequenced s c fs) k ≡ Some f → slice_get fs k ≡ Some f.file
file-at s c [] k f is = cc
file-at s c (x ∷ fs) zero f is = ap (λ (g : SequencedFile). Some g.file) (same_Some (first_of_files s c x) f is)
file-at s c (x ∷ fs) (suc k) f is = file-at (s + symbol_count x) (c + section_count x) fs k f is

pub len-at : (s c : ℕ) (fs : List InputFile) (k : ℕ) (f : SequencedFile) → slice_get (sequenced s c fs) k ≡ Some f → (n : ℕ) → f.symbols.len ≡ length (file_symbols n f.file)
len-at s c [] k f is n = cc
len-at s c (x ∷ fs) zero f is n =
    subst (λ (g : SequencedFile). g.symbols.len ≡ length (file_symbols n g.file)) (same_Some (first_of_files s c x) f is) (own-symbols n x)
len-at s c (x ∷ fs) (suc k) f is n = len-at (s + symbol_count x) (c + section_count x) fs k f is n

pub start-at : (s c n : ℕ) (fs : List InputFile) (k : ℕ) (f : SequencedFile) → slice_get (sequenced s c fs) k ≡ Some f → f.symbols.start ≡ s + length (symbols_of n (take k fs))
start-at s c n [] k f is = cc
start-at s c n (x ∷ fs) zero f is =
    subst (λ (g : SequencedFile). g.symbols.start ≡ s + 0) (same_Some (first_of_files s c x) f is) (omega arith)
start-at s c n (x ∷ fs) (suc k) f is =
    let rest = symbols_of (n + object_count x) (take k fs) in
    omega (arith, start-at (s + symbol_count x) (c + section_count x) (n + object_count x) fs k f is, own-symbols n x, length-append (file_symbols n x) rest)
