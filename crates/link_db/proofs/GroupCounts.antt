-- How many symbols groups have.
use Rattle.std.proofs.Common.{◌≡◌, ◌+◌, ◌++◌, ◌∙◌, ℕ, List, [], ◌∷◌, length, length-append, map, refl, ap, arith}
use Rattle.std.specs.List.{AllByRecursion, AllZip, flat_map}
use Rattle.std.proofs.lemmas.List.{length-map}
use Rattle.link_flags.specs.declared.value_flags.ValueFlags.{ValueFlags}
use Rattle.link_ids.specs.Span.{Span}
use Rattle.link_input.specs.SequencedFiles.{SequencedFile}
use Rattle.link_input.specs.Symbols.{symbols_of}
use Rattle.link_input_groups.specs.declared.group.Group.{Group}
use Rattle.link_input_groups.specs.declared.group.Group.TheVariants as group
use Rattle.link_input_groups.specs.Asked.{AllCanBeAsked, HasIdsForAll}
use Rattle.link_input_groups.specs.Groups.{files_of, length_of_spans, object_file, script_file, stub_file, symbol_spans}
use Rattle.link_db_files.specs.GroupFiles.{symbols_in}
use Rattle.link_db_files.specs.Numbered.{spans_of}
use Rattle.link_db_files.proofs.Numbered.{id_count, id-count-append, tabled-count}
use Rattle.link_db_ingest.specs.declared.read_symbols.ReadSymbols.{ReadSymbols}
use Rattle.link_db_ingest.specs.Files as read
use Rattle.link_db_ingest.specs.Parts.{HasAllFlags}
use Rattle.link_db.specs.Adding.{flags_in}

-- the ids of files that are all of a kind
own-spans : {A : Type 0} (file : A → SequencedFile) (span : A → Span) → ((a : A) → (file a).symbols ≡ span a) → (xs : List A) → spans_of (map file xs) ≡ map span xs
own-spans file span same [] = refl
own-spans file span same (x ∷ xs) =
    ap (λ (s : Span). s ∷ spans_of (map file xs)) (same x) ∙ ap (λ (l : List Span). span x ∷ l) (own-spans file span same xs)

-- the ids of the symbols of a group's files
pub group-spans : {P : Type 0} (g : Group P) → spans_of (files_of g) ≡ symbol_spans g
group-spans (group.Prelude symbols) = refl
group-spans (group.Objects objects) = own-spans object_file (λ o. o.symbol_id_range) (λ o. refl) objects
group-spans (group.LinkerScripts scripts) = own-spans script_file (λ s. s.symbol_id_range) (λ s. refl) scripts
group-spans (group.StubLibraries stubs) = own-spans stub_file (λ s. s.symbol_id_range) (λ s. refl) stubs
group-spans (group.SyntheticSymbols s) = refl

-- what is true of all of two lists
all-both : {A : Type 0} (Q : A → Type 0) (xs ys : List A) → AllByRecursion Q xs → AllByRecursion Q ys → AllByRecursion Q (xs ++ ys)
all-both Q [] ys left right = right
all-both Q (x ∷ xs) ys left right = (left.0, all-both Q xs ys left.1 right)

-- the files of groups that can be asked have an id for each symbol
pub asked-tables : {P : Type 0} (groups : List (Group P)) → AllCanBeAsked groups → AllByRecursion HasIdsForAll (flat_map (λ (g : Group P). files_of g) groups)
asked-tables [] all = tt
asked-tables {P} (g ∷ gs) all = all-both HasIdsForAll (files_of g) (flat_map (λ (k : Group P). files_of k) gs) all.0.tables (asked-tables gs all.1)

-- groups that can be asked have as many symbols as ids, whatever number of objects comes before
pub asked-count : {P : Type 0} (k : ℕ) (groups : List (Group P)) → AllCanBeAsked groups
    → length (symbols_of k (map (λ (f : SequencedFile). f.file) (flat_map (λ (g : Group P). files_of g) groups))) ≡ id_count (flat_map (λ (g : Group P). files_of g) groups)
asked-count {P} k groups all = tabled-count k (flat_map (λ (g : Group P). files_of g) groups) (asked-tables groups all)

-- the symbols of the first group, and those of the rest
pub count-first : {P : Type 0} (g : Group P) (gs : List (Group P)) → AllCanBeAsked (g ∷ gs)
    → length (symbols_in (g ∷ gs)) ≡ length_of_spans (symbol_spans g) + length (symbols_in gs)
count-first {P} g gs all =
    omega (arith, asked-count 0 (g ∷ gs) all, asked-count 0 gs all.1, id-count-append (files_of g) (flat_map (λ (k : Group P). files_of k) gs), ap length_of_spans (group-spans g))

-- where each part has flags for each id of its group, there are as many flags as symbols
pub read-count : {P : Type 0} (groups : List (Group P)) (parts : List ReadSymbols) → AllCanBeAsked groups → AllZip (λ g part. HasAllFlags g part) groups parts
    → length (flags_in parts) ≡ length (symbols_in groups)
read-count [] [] all have = refl
read-count [] (p ∷ ps) all have = absurd have
read-count (g ∷ gs) [] all have = absurd have
read-count (g ∷ gs) (p ∷ ps) all have =
    let own : length (read.numbers_of p.flags.items) ≡ length p.flags.items = length-map p.flags.items (λ (f : ValueFlags). f.0) in
    omega (arith, count-first g gs all, length-append (read.numbers_of p.flags.items) (flags_in ps), own, have.0, read-count gs ps all.1 have.1)
