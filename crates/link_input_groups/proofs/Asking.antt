-- The groups of a link can be asked for their files and symbols.
use Rattle.std.proofs.Common.{◌≡◌, ℕ, ◌+◌, ◌^◌, ◌<◌, eqb, false, List, [], ◌∷◌, ◌++◌, length, map, refl, sym, ap, ◌∙◌, subst, arith}
use Rattle.std.specs.List.{flat_map, AllByRecursion}
use Rattle.std.proofs.lemmas.List.{map-append, length-map}
use Rattle.std.proofs.lemmas.Bool.{ne_eqb}
use Rattle.link_ids.specs.Span.{Span}
use Rattle.link_input_groups.specs.declared.group.Group.{Group}
use Rattle.link_input_groups.specs.declared.group.Group.TheVariants as group
use Rattle.link_input.specs.ObjectFile.{ObjectFile}
use Rattle.link_input.specs.InputFiles.{InputFile, object, linker_script, stub_input, symbol_count, section_count, Batch}
use Rattle.link_input.specs.SequencedFiles.{SequencedFile, sequenced}
use Rattle.link_input_groups.specs.Groups.{files_of, symbol_spans, length_of_spans, RunsFrom, RunsOn, object_file, script_file, stub_file}
use Rattle.link_input.specs.Limits.{total}
use Rattle.link_input_groups.specs.GroupsAdded.{group_files, one_group}
use Rattle.link_input_groups.specs.Asked.{HasIdsForAll, AllCanBeAsked}
use Rattle.link_input_groups.proofs.Cutting.{total-append}
use Rattle.link_input_groups.proofs.Runs.{length-files}
use Rattle.link_input_groups.proofs.Whole.{added_lists}
use Rattle.link_input_groups.proofs.AddsLemmas.{one_group-some}

-- the ids of the symbols of files
abbrev pub spans : List SequencedFile → List Span
spans fs = map (λ f. f.symbols) fs

map-map : {A B C : Type 0} (f : B → C) (g : A → B) (xs : List A) → map f (map g xs) ≡ map (λ x. f (g x)) xs
map-map f g [] = refl
map-map f g (x ∷ xs) = ap (λ r. f (g x) ∷ r) (map-map f g xs)

-- those of a group are those of its files
spans-of : {P : Type 0} (g : Group P) → spans (files_of g) ≡ symbol_spans g
spans-of (group.Prelude symbols) = refl
spans-of (group.Objects objects) = map-map (λ (f : SequencedFile). f.symbols) object_file objects
spans-of (group.LinkerScripts scripts) = map-map (λ (f : SequencedFile). f.symbols) script_file scripts
spans-of (group.StubLibraries stubs) = map-map (λ (f : SequencedFile). f.symbols) stub_file stubs
spans-of (group.SyntheticSymbols s) = refl

-- ids that are given one after another run on, and each file has them all
runs-sequenced : (s c : ℕ) (fs : List InputFile) → RunsFrom s (spans (sequenced s c fs))
runs-sequenced s c [] = tt
runs-sequenced s c (f ∷ fs) = (refl, runs-sequenced (s + symbol_count f) (c + section_count f) fs)

tables-sequenced : (s c : ℕ) (fs : List InputFile) → AllByRecursion HasIdsForAll (sequenced s c fs)
tables-sequenced s c [] = tt
tables-sequenced s c (f ∷ fs) = (refl, tables-sequenced (s + symbol_count f) (c + section_count f) fs)

total-sequenced : (s c : ℕ) (fs : List InputFile) → length_of_spans (spans (sequenced s c fs)) ≡ total symbol_count fs
total-sequenced s c [] = refl
total-sequenced s c (f ∷ fs) = ap (λ n. symbol_count f + n) (total-sequenced (s + symbol_count f) (c + section_count f) fs)

-- what runs on, does so in both parts
runs-split : (n : ℕ) (xs ys : List SequencedFile) → RunsFrom n (spans (xs ++ ys)) → RunsFrom n (spans xs) × ((m : ℕ) × RunsFrom m (spans ys))
runs-split n [] ys h = (tt, (n, h))
runs-split n (x ∷ xs) ys h = let r = runs-split (n + x.symbols.len) xs ys h.1 in ((h.0, r.0), r.1)

runs-on : (n : ℕ) (ss : List Span) → RunsFrom n ss → RunsOn ss
runs-on n [] h = tt
runs-on n (s ∷ ss) h = let F : ℕ → Type 0 = λ k. RunsFrom (k + s.len) ss in subst F (sym h.0) h.1

all-split : {A : Type 0} (P : A → Type 0) (xs ys : List A) → AllByRecursion P (xs ++ ys) → AllByRecursion P xs × AllByRecursion P ys
all-split P [] ys h = (tt, h)
all-split P (x ∷ xs) ys h = let r = all-split P xs ys h.1 in ((h.0, r.0), r.1)

pub all-join : {A : Type 0} (P : A → Type 0) (xs ys : List A) → AllByRecursion P xs → AllByRecursion P ys → AllByRecursion P (xs ++ ys)
all-join P [] ys hx hy = hy
all-join P (x ∷ xs) ys hx hy = (hx.0, all-join P xs ys hx.1 hy)

-- each group of files whose ids run on
groups-asked : {P : Type 0} (n : ℕ) (gs : List (Group P)) → RunsFrom n (spans (flat_map files_of gs)) → AllByRecursion HasIdsForAll (flat_map files_of gs) → length_of_spans (spans (flat_map files_of gs)) < 2 ^ 32 → AllByRecursion (λ l. 0 < length l) (map group_files gs) → AllCanBeAsked gs
groups-asked n [] runs tables fits some = tt
groups-asked n (g ∷ gs) runs tables fits some =
    let own = files_of g in
    let rest = flat_map files_of gs in
    let r = runs-split n own rest runs in
    let t = all-split HasIdsForAll own rest tables in
    let sum : length_of_spans (spans (own ++ rest)) ≡ length_of_spans (spans own) + length_of_spans (spans rest) = ap length_of_spans (map-append (λ (f : SequencedFile). f.symbols) own rest) ∙ total-append (λ (s : Span). s.len) (spans own) (spans rest) in
    let is = spans-of g in
    let here : length_of_spans (symbol_spans g) < 2 ^ 32 = omega (arith, sum, fits, ap length_of_spans is) in
    let there : length_of_spans (spans rest) < 2 ^ 32 = omega (arith, sum, fits) in
    let files : 0 < length (symbol_spans g) = omega (arith, some.0, length-map own (λ f. f.file), length-map own (λ f. f.symbols), ap length is) in
    (record { some = files; fits = here; runs = subst RunsOn is (runs-on n (spans own) r.0); tables = t.0 }, groups-asked r.1.0 gs r.1.1 t.1 there some.1)

-- no group is empty
some-lists : (cuts : List (List ObjectFile)) → AllByRecursion (λ g. 0 < length g) cuts → AllByRecursion (λ l. 0 < length l) (map (λ cut. map object cut) cuts)
some-lists [] some = tt
some-lists (c ∷ cs) some = (omega (arith, some.0, length-map c (λ o. object o)), some-lists cs some.1)

some-one : (fs : List InputFile) → AllByRecursion (λ l. 0 < length l) (one_group fs)
some-one [] = tt
some-one (f ∷ fs) =
    let some : eqb (length (f ∷ fs)) 0 ≡ false = ne_eqb (length (f ∷ fs)) 0 (λ e. omega (arith, e)) in
    rw (one_group-some (f ∷ fs) some) (omega arith, tt)

-- no group that is added is empty
pub some-added : (batch : Batch) (cuts : List (List ObjectFile)) → AllByRecursion (λ g. 0 < length g) cuts → AllByRecursion (λ l. 0 < length l) (added_lists batch cuts)
some-added batch cuts some =
    let a = map (λ cut. map object cut) cuts in
    let b = one_group (map linker_script batch.scripts) in
    let c = one_group (map stub_input batch.stubs) in
    all-join (λ l. 0 < length l) (a ++ b) c (all-join (λ l. 0 < length l) a b (some-lists cuts some) (some-one (map linker_script batch.scripts))) (some-one (map stub_input batch.stubs))

-- no group that can be asked is empty
pub some-asked : {P : Type 0} (groups : List (Group P)) → AllCanBeAsked groups → AllByRecursion (λ l. 0 < length l) (map group_files groups)
some-asked [] asked = tt
some-asked (g ∷ gs) asked = (omega (arith, asked.0.some, length-files g, length-map (files_of g) (λ f. f.file)), some-asked gs asked.1)

-- groups of files with ids one after another
pub all-asked : {P : Type 0} (fs : List InputFile) (groups : List (Group P)) → flat_map files_of groups ≡ sequenced 0 0 fs → AllByRecursion (λ l. 0 < length l) (map group_files groups) → total symbol_count fs < 2 ^ 32 → AllCanBeAsked groups
all-asked fs groups files some within =
    let F : List SequencedFile → Type 0 = λ l. RunsFrom 0 (spans l) in
    let G : List SequencedFile → Type 0 = λ l. AllByRecursion HasIdsForAll l in
    let fits : length_of_spans (spans (flat_map files_of groups)) < 2 ^ 32 = omega (arith, ap (λ l. length_of_spans (spans l)) files, total-sequenced 0 0 fs, within) in
    groups-asked 0 groups (subst F (sym files) (runs-sequenced 0 0 fs)) (subst G (sym files) (tables-sequenced 0 0 fs)) fits some
