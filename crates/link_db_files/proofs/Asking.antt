-- What the symbols of files ask for, file by file.
use Rattle.std.proofs.Common.{◌≡◌, ◌+◌, ◌++◌, ◌∙◌, ℕ, List, [], ◌∷◌, Some, None, drop, length, map, refl, replicate, slice_get, sym, ap}
use Rattle.std.specs.List.{flat_map}
use Rattle.std.proofs.lemmas.List.{append_assoc, map-append}
use Rattle.std.proofs.lemmas.List.Concat.{flat_map-append}
use Rattle.link_input_groups.proofs.FileTotals.{drop-at}
use Rattle.link_input_groups.specs.declared.group.Group.{Group}
use Rattle.link_input_groups.specs.declared.sequenced.SequencedInputObject.{SequencedInputObject}
use Rattle.link_input_groups.specs.declared.sequenced_input.SequencedInput.{SequencedInput}
use Rattle.link_input_groups.specs.declared.sequenced_input.SequencedInput.TheVariants as input
use Rattle.link_input_groups.specs.Groups.{files_of}
use Rattle.link_input_groups.specs.SequencedInputs.{sequenced_file}
use Rattle.link_input.specs.declared.symbol_entry.SymbolEntry.{SymbolEntry}
use Rattle.link_input.specs.InputFiles.{InputFile, prelude, object, linker_script, stub_library, synthetic, object_count, symbol_count}
use Rattle.link_input.specs.ObjectFile.{ObjectFile}
use Rattle.link_input.specs.SequencedFiles.{SequencedFile}
use Rattle.link_input.specs.Symbols.{Symbol, file_symbols, object_symbol, symbols_of}
use Rattle.std.specs.Borrow.{Bor}
use Rattle.link_db_files.specs.Asked.{asked_number, asked_numbers_of, entry_asked, file_asked, group_asked, groups_asked}
use Rattle.link_db_files.specs.Columns.{symbols_behind}
use Rattle.link_db_files.proofs.Numbered.{bare}

-- one element more, of those for which something is told
pub mapped-more : {A B : Type 0} (tell : A → B) (xs : List A) (i : ℕ) (x : A) (old new all : List B) → slice_get xs i ≡ Some x
    → new ≡ old ++ tell x ∷ [] → old ++ map tell (drop i xs) ≡ all → new ++ map tell (drop (i + 1) xs) ≡ all
mapped-more {A} {B} tell xs i x old new all at more before =
    let rest = map tell (drop (i + 1) xs) in
    ap (λ (l : List B). l ++ rest) more ∙ (append_assoc old (tell x ∷ []) rest
    ∙ (ap (λ (l : List A). old ++ map tell l) (sym (drop-at xs i x at)) ∙ before))

-- one element more, of those that each give a list
pub joined-more : {A B : Type 0} (give : A → List B) (xs : List A) (i : ℕ) (x : A) (old new all : List B) → slice_get xs i ≡ Some x
    → new ≡ old ++ give x → old ++ flat_map give (drop i xs) ≡ all → new ++ flat_map give (drop (i + 1) xs) ≡ all
joined-more {A} {B} give xs i x old new all at more before =
    let rest = flat_map give (drop (i + 1) xs) in
    ap (λ (l : List B). l ++ rest) more ∙ (append_assoc old (give x) rest
    ∙ (ap (λ (l : List A). old ++ flat_map give l) (sym (drop-at xs i x at)) ∙ before))

-- symbols that are made of entries ask for what these do
pub made-of-entries : (n : ℕ) (o : ObjectFile) (entries : List SymbolEntry) → asked_numbers_of (map (object_symbol n o) entries) ≡ map entry_asked entries
made-of-entries n o [] = refl
made-of-entries n o (e ∷ es) = ap (λ l. entry_asked e ∷ l) (made-of-entries n o es)

-- symbols that stand in no object ask for nothing
asking-nothing : {A : Type 0} (make : A → Symbol) → ((x : A) → asked_number (make x) ≡ None) → (xs : List A) → asked_numbers_of (map make xs) ≡ replicate (length xs) None
asking-nothing make none [] = refl
asking-nothing make none (x ∷ xs) =
    ap (λ a. a ∷ asked_numbers_of (map make xs)) (none x) ∙ ap (λ l. None ∷ l) (asking-nothing make none xs)

-- the symbols of a file ask for the same, however many objects there are before it
file-asked : (n : ℕ) (f : InputFile) → asked_numbers_of (file_symbols n f) ≡ file_asked f
file-asked n (prelude symbols) = refl
file-asked n (object o) = made-of-entries n o o.object.symbols ∙ sym (made-of-entries 0 o o.object.symbols)
file-asked n (linker_script s) = refl
file-asked n (stub_library input symbols) = refl
file-asked n synthetic = refl

-- the symbols of a file that is no object ask for nothing
pub no-object-asks : {P : Type 0} (i : SequencedInput P) → ((o : Bor (SequencedInputObject P)) → i ≡ input.Object o → ⊥)
    → replicate (symbol_count (sequenced_file i).file) None ≡ file_asked (sequenced_file i).file
no-object-asks (input.Prelude p) other = sym (asking-nothing _ (λ d. refl) p.now)
no-object-asks (input.Object o) other = absurd (other o refl)
no-object-asks (input.LinkerScript s) other = sym (asking-nothing _ (λ d. refl) s.now.parsed.symbol_defs)
no-object-asks (input.StubLibrary s) other = sym (asking-nothing _ (λ d. refl) s.now.defined_symbols)
no-object-asks (input.SyntheticSymbols s) other = refl

-- the symbols of files ask for what those of each do
files-asked : (n : ℕ) (fs : List SequencedFile) → asked_numbers_of (symbols_of n (bare fs)) ≡ flat_map (λ f. file_asked f.file) fs
files-asked n [] = refl
files-asked n (f ∷ fs) =
    map-append asked_number (file_symbols n f.file) (symbols_of (n + object_count f.file) (bare fs))
    ∙ (ap (λ l. l ++ asked_numbers_of (symbols_of (n + object_count f.file) (bare fs))) (file-asked n f.file)
    ∙ ap (λ l. file_asked f.file ++ l) (files-asked (n + object_count f.file) fs))

-- those of the files of groups ask for what those of each group do
pub groups-asked : {P : Type 0} (n : ℕ) (groups : List (Group P)) → groups_asked groups ≡ asked_numbers_of (symbols_behind n groups)
groups-asked {P} n groups = in-groups groups ∙ sym (files-asked n (flat_map files_of groups))
  where
    in-groups : (gs : List (Group P)) → groups_asked gs ≡ flat_map (λ (f : SequencedFile). file_asked f.file) (flat_map files_of gs)
    in-groups [] = refl
    in-groups (g ∷ gs) =
        ap (λ l. group_asked g ++ l) (in-groups gs) ∙ sym (flat_map-append (λ (f : SequencedFile). file_asked f.file) (files_of g) (flat_map files_of gs))
