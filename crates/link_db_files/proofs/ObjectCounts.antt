-- How many objects are among files, and before one of them.
use Rattle.std.proofs.Common.{◌≡◌, ◌+◌, ◌≤◌, ◌∙◌, ℕ, zero, suc, List, [], ◌∷◌, length, map, Option, Some, None, refl, sym, ap, arith, take}
use Rattle.std.specs.Prelude.{slice_get}
use Rattle.std.specs.List.{cons_option, filter_map}
use Rattle.std.proofs.lemmas.List.{length-map}
use Rattle.std.proofs.lemmas.Option.{same_Some, slice_get_within}
use Rattle.link_input.specs.InputFiles.{InputFile, prelude, object, linker_script, stub_library, synthetic, object_count}
use Rattle.link_input.specs.Limits.{total}
use Rattle.link_input.specs.ObjectFile.{ObjectFile}
use Rattle.link_input.specs.SequencedFiles.{SequencedFile}
use Rattle.link_input_groups.specs.declared.group.Group.{Group}
use Rattle.link_input_groups.specs.declared.group.Group.TheVariants as group
use Rattle.link_input_groups.specs.declared.sequenced.SequencedInputObject.{SequencedInputObject}
use Rattle.link_input_groups.specs.Groups.{files_of, object_file, script_file, stub_file}
use Rattle.link_db_files.specs.Inputs.{object_of}

-- how many of these files are objects
abbrev pub count_of : List SequencedFile → ℕ
count_of fs = total object_count (map (λ f. f.file) fs)

-- objects are counted as they are picked
pub objects-counted : (fs : List SequencedFile) → count_of fs ≡ length (filter_map (λ (f : SequencedFile). object_of f.file) fs)
objects-counted [] = refl
objects-counted (f ∷ fs) = by-kind f.file (filter_map (λ (g : SequencedFile). object_of g.file) fs) (count_of fs) (objects-counted fs)
  where
    by-kind : (k : InputFile) (rest : List ObjectFile) (n : ℕ) → n ≡ length rest → object_count k + n ≡ length (cons_option (object_of k) rest)
    by-kind (prelude symbols) rest n e = omega (arith, e)
    by-kind (object o) rest n e = omega (arith, e)
    by-kind (linker_script d) rest n e = omega (arith, e)
    by-kind (stub_library input symbols) rest n e = omega (arith, e)
    by-kind synthetic rest n e = omega (arith, e)

-- of objects all are counted
all-objects : {P : Type 0} (os : List (SequencedInputObject P)) (k : ℕ) → k ≤ length os → count_of (take k (map object_file os)) ≡ k
all-objects [] zero le = refl
all-objects [] (suc k) le = absurd (omega (arith, le))
all-objects (o ∷ os) zero le = refl
all-objects (o ∷ os) (suc k) le = omega (arith, all-objects os k (omega (arith, le)))

-- a file among others that are no objects is none
none-among : {A : Type 0} (file : A → SequencedFile) → ((a : A) → object_of (file a).file ≡ None) → (xs : List A) (k : ℕ) (f : SequencedFile) → slice_get (map file xs) k ≡ Some f → object_of f.file ≡ None
none-among file none [] k f is = cc
none-among file none (x ∷ xs) zero f is = ap (λ (g : SequencedFile). object_of g.file) (sym (same_Some (file x) f is)) ∙ none x
none-among file none (x ∷ xs) (suc k) f is = none-among file none xs k f is

-- none is no object
not-both : (o : Option ObjectFile) (x : ObjectFile) → o ≡ None → o ≡ Some x → ⊥
not-both None x none some = cc
not-both (Some y) x none some = cc

-- before an object of a group stand as many objects as files
pub object-in-group : {P : Type 0} (g : Group P) (k : ℕ) (f : SequencedFile) (o : ObjectFile) → slice_get (files_of g) k ≡ Some f → object_of f.file ≡ Some o → count_of (take k (files_of g)) ≡ k
object-in-group (group.Prelude symbols) zero f o is some = refl
object-in-group (group.Prelude symbols) (suc k) f o is some = cc
object-in-group {P} (group.Objects objects) k f o is some =
    all-objects objects k (omega (arith, slice_get_within (map (λ (x : SequencedInputObject P). object_file x) objects) k f is, length-map objects (λ (x : SequencedInputObject P). object_file x)))
object-in-group (group.LinkerScripts scripts) k f o is some = absurd (not-both (object_of f.file) o (none-among script_file (λ s. refl) scripts k f is) some)
object-in-group (group.StubLibraries stubs) k f o is some = absurd (not-both (object_of f.file) o (none-among stub_file (λ s. refl) stubs k f is) some)
object-in-group (group.SyntheticSymbols s) zero f o is some = refl
object-in-group (group.SyntheticSymbols s) (suc k) f o is some = cc
