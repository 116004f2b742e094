-- How many files of a kind are among those of groups.
use Rattle.std.proofs.Common.{◌≡◌, ◌+◌, ◌<◌, ◌≤◌, ◌++◌, ◌∙◌, ℕ, zero, suc, List, [], ◌∷◌, drop, get_or, length, map, Option, Some, None, refl, sym, take, ap, arith, length-append}
use Rattle.std.specs.List.{cons_option, filter_map, flat_map}
use Rattle.std.proofs.Math.Seq.{drop-cons}
use Rattle.std.proofs.lemmas.List.{append-nil}
use Rattle.std.proofs.lemmas.List.Elements.{filter_map-append}
use Rattle.link_input.specs.InputFiles.{InputFile}
use Rattle.link_input.specs.SequencedFiles.{SequencedFile}
use Rattle.link_input_groups.specs.declared.group.Group.{Group}
use Rattle.link_input_groups.specs.declared.group.Group.TheVariants as group
use Rattle.link_input_groups.specs.declared.sequenced.SequencedInputObject.{SequencedInputObject}
use Rattle.link_input_groups.specs.declared.sequenced.SequencedLinkerScript.{SequencedLinkerScript}
use Rattle.link_input_groups.specs.Groups.{files_of, object_file, script_file, stub_file}
use Rattle.link_db_files.specs.Inputs.{object_of, objects_in, script_of, scripts_in}
use Rattle.link_db_files.specs.Starts.{starts_of}
use Rattle.link_db_files.proofs.Places.{length-all-starts}

-- what is picked of the files of groups
abbrev pub picked : {P X : Type 0} → (InputFile → Option X) → List (Group P) → List X
picked pick groups = filter_map (λ (f : SequencedFile). pick f.file) (flat_map files_of groups)

-- of the first group, and of the rest
picked-first : {P X : Type 0} (pick : InputFile → Option X) (g : Group P) (gs : List (Group P)) → length (picked pick (g ∷ gs)) ≡ length (picked pick (g ∷ [])) + length (picked pick gs)
picked-first {P} pick g gs =
    let of_file = λ (f : SequencedFile). pick f.file in
    let one : length (picked pick (g ∷ [])) ≡ length (filter_map of_file (files_of g)) = ap (λ (l : List SequencedFile). length (filter_map of_file l)) (append-nil (files_of g)) in
    omega (arith, one, ap (λ l. length l) (filter_map-append of_file (files_of g) (flat_map files_of gs)), length-append (filter_map of_file (files_of g)) (filter_map of_file (flat_map files_of gs)))

-- one more at most
one-more : {X : Type 0} (o : Option X) (rest : List X) → length (cons_option o rest) ≤ suc (length rest)
one-more None rest = omega arith
one-more (Some x) rest = omega arith

-- no more are picked than there are files
picked-few : {X : Type 0} (pick : InputFile → Option X) (fs : List SequencedFile) → length (filter_map (λ (f : SequencedFile). pick f.file) fs) ≤ length fs
picked-few pick [] = omega arith
picked-few pick (f ∷ fs) = omega (arith, one-more (pick f.file) (filter_map (λ (g : SequencedFile). pick g.file) fs), picked-few pick fs)

-- of files that all are of the kind all are counted
picked-own : {A X : Type 0} (pick : InputFile → Option X) (file : A → SequencedFile) (own : A → X) → ((a : A) → pick (file a).file ≡ Some (own a)) → (xs : List A) → length (filter_map (λ (f : SequencedFile). pick f.file) (map file xs ++ [])) ≡ length xs
picked-own pick file own all [] = refl
picked-own pick file own all (x ∷ xs) = rw (all x) (ap suc (picked-own pick file own all xs))

-- of files that all are of another kind none is
picked-other : {A X : Type 0} (pick : InputFile → Option X) (file : A → SequencedFile) → ((a : A) → pick (file a).file ≡ None) → (xs : List A) → length (filter_map (λ (f : SequencedFile). pick f.file) (map file xs ++ [])) ≡ 0
picked-other pick file none [] = refl
picked-other pick file none (x ∷ xs) = rw (none x) (picked-other pick file none xs)

-- one group is counted, and then the rest is left
pub left-picked : {P X : Type 0} (pick : InputFile → Option X) (groups : List (Group P)) (i : ℕ) (g : Group P) (n m all : ℕ) → i < length groups → g ≡ get_or groups i g → m ≡ length (picked pick (g ∷ [])) → n + length (picked pick (drop i groups)) ≡ all
    → n + m + length (picked pick (drop (i + 1) groups)) ≡ all
left-picked {P} pick groups i g n m all lt at own left =
    let next : suc i ≡ i + 1 = omega arith in
    let here : drop i groups ≡ g ∷ drop (i + 1) groups = drop-cons groups i g lt ∙ (ap (λ (k : Group P). k ∷ drop (suc i) groups) (sym at) ∙ ap (λ k. g ∷ drop k groups) next) in
    omega (arith, left, own, ap (λ (gs : List (Group P)). length (picked pick gs)) here, picked-first pick g (drop (i + 1) groups))

-- there are no more objects than files
pub few-objects : {P : Type 0} (groups : List (Group P)) → length (objects_in groups) ≤ length (starts_of groups)
few-objects groups = omega (arith, picked-few object_of (flat_map files_of groups), length-all-starts groups)

-- nor linker scripts
pub few-scripts : {P : Type 0} (groups : List (Group P)) → length (scripts_in groups) ≤ length (starts_of groups)
few-scripts groups = omega (arith, picked-few script_of (flat_map files_of groups), length-all-starts groups)

-- a group of objects has as many
pub objects-own : {P : Type 0} (objects : List (SequencedInputObject P)) → length objects ≡ length (objects_in (group.Objects objects ∷ []))
objects-own {P} objects = sym (picked-own object_of (λ (o : SequencedInputObject P). object_file o) (λ (o : SequencedInputObject P). o.parsed) (λ o. refl) objects)

-- another group has none
pub no-objects : {P : Type 0} (g : Group P) → ((objects : List (SequencedInputObject P)) → g ≡ group.Objects objects → ⊥) → 0 ≡ length (objects_in (g ∷ []))
no-objects (group.Prelude symbols) other = refl
no-objects (group.Objects objects) other = absurd (other objects refl)
no-objects (group.LinkerScripts scripts) other = sym (picked-other object_of script_file (λ s. refl) scripts)
no-objects (group.StubLibraries stubs) other = sym (picked-other object_of stub_file (λ s. refl) stubs)
no-objects (group.SyntheticSymbols s) other = refl

-- a group of linker scripts has as many
pub scripts-own : (P : Type 0) (scripts : List SequencedLinkerScript) → length scripts ≡ length (scripts_in {P = P} (group.LinkerScripts scripts ∷ []))
scripts-own P scripts = sym (picked-own script_of script_file (λ (s : SequencedLinkerScript). s.parsed) (λ s. refl) scripts)

-- another group has none
pub no-scripts : {P : Type 0} (g : Group P) → ((scripts : List SequencedLinkerScript) → g ≡ group.LinkerScripts scripts → ⊥) → 0 ≡ length (scripts_in (g ∷ []))
no-scripts (group.Prelude symbols) other = refl
no-scripts {P} (group.Objects objects) other = sym (picked-other script_of (λ (o : SequencedInputObject P). object_file o) (λ o. refl) objects)
no-scripts (group.LinkerScripts scripts) other = absurd (other scripts refl)
no-scripts (group.StubLibraries stubs) other = sym (picked-other script_of stub_file (λ s. refl) stubs)
no-scripts (group.SyntheticSymbols s) other = refl

-- no more objects stand in the first groups than in all
pub few-before : {P : Type 0} (groups : List (Group P)) (n : ℕ) → length (objects_in (take n groups)) ≤ length (objects_in groups)
few-before [] zero = omega arith
few-before [] (suc n) = omega arith
few-before (g ∷ gs) zero = omega arith
few-before (g ∷ gs) (suc n) = omega (arith, picked-first object_of g (take n gs), picked-first object_of g gs, few-before gs n)
