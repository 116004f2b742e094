-- The object of each symbol of groups is one of their objects.
use Rattle.std.proofs.Common.{◌≡◌, ℕ, zero, suc, ◌+◌, ◌<◌, ◌≤◌, ◌∙◌, ◌++◌, List, [], ◌∷◌, Bool, true, false, cond, map, length, Option, Some, None, IfSome, refl, sym, ap, subst, arith}
use Rattle.std.specs.Prelude.{◌&&◌, ◌||◌, option_map, slice_get}
use Rattle.std.specs.List.{AllByRecursion, cons_option, filter_map, flat_map}
use Rattle.std.specs.Option.{option_and_then}
use Rattle.std.proofs.lemmas.Option.{slice_get-map}
use Rattle.link_input.specs.InputFiles.{InputFile, prelude, object, linker_script, stub_library, synthetic, object_count}
use Rattle.link_input.specs.ObjectFile.{ObjectFile}
use Rattle.link_input.specs.SequencedFiles.{SequencedFile}
use Rattle.link_input.specs.Symbols.{Symbol, file_symbols, object_in, object_symbol, symbols_of}
use Rattle.link_input_groups.specs.declared.group.Group.{Group}
use Rattle.link_input_groups.specs.Groups.{files_of}
use Rattle.link_db_files.specs.GroupFiles.{symbols_in}
use Rattle.link_db_files.specs.Inputs.{object_of, objects_in}
use Rattle.link_rules.specs.Places.{same_number}
use Rattle.link_rules.specs.Undefined.{is_weak_symbol}
use Rattle.link_resolve_requests.specs.Requests.{request_by, requested}
use Rattle.link_db_files.specs.Sources.{source_of, sources_of}

-- what is there is the same
same-some : {X : Type 0} {x y : X} → Some x ≡ Some y → x ≡ y
same-some e = cc

-- where a symbol stands in an object, the place of that is below a count
abbrev pub IsBelow : ℕ → Symbol → Type 0
IsBelow count x = IfSome (object_in x.origin) (λ f. f < count)

-- so do symbols that all are made so, and those behind them
all-made : {A : Type 0} (count : ℕ) (make : A → Symbol) → ((a : A) → IsBelow count (make a)) → (xs : List A) (rest : List Symbol)
    → AllByRecursion (IsBelow count) rest → AllByRecursion (IsBelow count) (map make xs ++ rest)
all-made count make each [] rest below = below
all-made count make each (x ∷ xs) rest below = (each x, all-made count make each xs rest below)

-- the symbols of a file, and those behind it
file-below : (n count m : ℕ) (k : InputFile) (objects : List ObjectFile) (rest : List Symbol) → n + length (cons_option (object_of k) objects) ≤ count
    → AllByRecursion (IsBelow count) rest → AllByRecursion (IsBelow count) (file_symbols n k ++ rest)
file-below n count m (prelude symbols) objects rest few below = all-made count _ (λ d. tt) symbols rest below
file-below n count m (object o) objects rest few below = all-made count (object_symbol n o) (λ e. omega (arith, few)) o.object.symbols rest below
file-below n count m (linker_script s) objects rest few below = all-made count _ (λ d. tt) s.symbol_defs rest below
file-below n count m (stub_library input symbols) objects rest few below = all-made count _ (λ d. tt) symbols rest below
file-below n count m synthetic objects rest few below = below

-- a file's object is one more
counted : (n count : ℕ) (k : InputFile) (objects : List ObjectFile) → n + length (cons_option (object_of k) objects) ≤ count → n + object_count k + length objects ≤ count
counted n count (prelude symbols) objects few = omega (arith, few)
counted n count (object o) objects few = omega (arith, few)
counted n count (linker_script s) objects few = omega (arith, few)
counted n count (stub_library input symbols) objects few = omega (arith, few)
counted n count synthetic objects few = omega (arith, few)

-- the symbols of files
files-below : (n count : ℕ) (fs : List SequencedFile) → n + length (filter_map (λ (f : SequencedFile). object_of f.file) fs) ≤ count
    → AllByRecursion (IsBelow count) (symbols_of n (map (λ (f : SequencedFile). f.file) fs))
files-below n count [] few = tt
files-below n count (f ∷ fs) few =
    let objects = filter_map (λ (g : SequencedFile). object_of g.file) fs in
    file-below n count 0 f.file objects (symbols_of (n + object_count f.file) (map (λ (g : SequencedFile). g.file) fs)) few
    (files-below (n + object_count f.file) count fs (counted n count f.file objects few))

-- what all do, the one at a place does
all-at : {X : Type 0} (P : X → Type 0) (xs : List X) (s : ℕ) (x : X) → AllByRecursion P xs → slice_get xs s ≡ Some x → P x
all-at P [] s x each at = absurd (cc)
all-at P (y ∷ xs) zero x each at = subst P (same-some at) each.0
all-at P (y ∷ xs) (suc s) x each at = all-at P xs s x each.1 at

-- the place that there is
some-below : (count f : ℕ) (o : Option ℕ) → o ≡ Some f → IfSome o (λ n. n < count) → f < count
some-below count f None is below = absurd (cc)
some-below count f (Some n) is below = let P : ℕ → Type 0 = λ k. k < count in subst P (same-some is) below

-- the object of each symbol of groups is one of their objects
pub object-below : {P : Type 0} (groups : List (Group P)) (s : ℕ) (x : Symbol) (f : ℕ) → slice_get (symbols_in groups) s ≡ Some x → object_in x.origin ≡ Some f → f < length (objects_in groups)
object-below {P} groups s x f at is =
    let count = length (objects_in groups) in
    some-below count f (object_in x.origin) is
    (all-at (IsBelow count) (symbols_in groups) s x (files-below 0 count (flat_map (λ (g : Group P). files_of g) groups) (omega arith)) at)

-- what is asked for is an object
asked-object : (b : Bool) (o : Option ℕ) (g : ℕ) → cond b None o ≡ Some g → o ≡ Some g
asked-object true o g is = absurd (cc)
asked-object false o g is = is

-- the object of a symbol that may be there
source-object : (symbols : List Symbol) (x : Symbol) (t g : ℕ) (o : Option Symbol) → slice_get symbols t ≡ o → option_and_then (requested (source_of x)) (option_map source_of o) ≡ Some g
    → (y : Symbol) × (slice_get symbols t ≡ Some y) × (object_in y.origin ≡ Some g)
source-object symbols x t g None at is = absurd (cc)
source-object symbols x t g (Some y) at is = (y, at, asked-object ((source_of x).is_shared && (source_of y).is_shared || same_number (source_of x).object (source_of y).object) (object_in y.origin) g is)

-- what a symbol asks for is the object of its target
target-object : (symbols : List Symbol) (x : Symbol) (target : Option ℕ) (g : ℕ) → option_and_then (requested (source_of x)) (option_and_then (slice_get (sources_of symbols)) target) ≡ Some g
    → (t : ℕ) × (y : Symbol) × (slice_get symbols t ≡ Some y) × (object_in y.origin ≡ Some g)
target-object symbols x None g is = absurd (cc)
target-object symbols x (Some t) g is =
    let found = source-object symbols x t g (slice_get symbols t) refl (ap (option_and_then (requested (source_of x))) (sym (slice_get-map source_of symbols t)) ∙ is) in
    (t, found.0, found.1, found.2)

-- what a symbol asks for by some target is an object
pub request-below : {P : Type 0} (groups : List (Group P)) (x : Symbol) (target : Option ℕ) (g : ℕ) → request_by (sources_of (symbols_in groups)) x target ≡ Some g → g < length (objects_in groups)
request-below groups x target g is =
    let to = target-object (symbols_in groups) x target g (asked-object (is_weak_symbol x) _ g is) in
    object-below groups to.0 to.1 g to.2 to.3
