-- Items that were read one by one, gathered in their order.
use Rattle.std.proofs.Common.{◌≡◌, ℕ, ◌+◌, List, [], ◌∷◌, ◌++◌, Result, Ok, Err, length, Bor, Global, refl, sym, ap, subst, ◌∙◌, arith}
use Rattle.std.specs.Prelude.{Option, Some, IfSome}
use Rattle.std.specs.List.{AllZip}
use Rattle.std.specs.Fn.{FnReturnsAt, Shared}
use Rattle.std.proofs.lemmas.Grind.{common_steps}
use Rattle.json.specs.declared.value.Value.{Value}
use Rattle.serde_json.specs.Data.{Data, Items, no_items, item}
use Rattle.link_manifest_json.specs.Tree.{view, items_view}
use Rattle.link_manifest.specs.declared.fault.ManifestError.{ManifestError}
use Rattle.link_manifest.specs.declared.fault.ManifestError.TheVariants.{At, Memory}
use Rattle.link_manifest.specs.declared.fault.ManifestFault.{ManifestFault}
use Rattle.link_manifest.specs.declared.fault.Step.TheVariants.{Item}
use Rattle.link_manifest.specs.Reading.{AllRead, IsFaultOf, Reads, and_read, items_read, within}

-- of these values, the answers that are left and what was gathered give what the whole list gives
abbrev pub IsLeft : {A : Type 0} → (Data → Result A ManifestFault) → Items → ℕ → List A → List (Result A ManifestError) → Type 0
IsLeft read values place gathered answers =
    (left : Items) × AllRead read left answers
    × (and_read (items_read read place left) (λ others. Ok (gathered ++ others)) ≡ items_read read 0 values)

-- the answer to one item comes through the step that puts its place before a fault
abbrev pub Passes : {A : Type 0} → ℕ → Result A ManifestError → Result A ManifestError → Type 0
Passes {A} place answer seen = (due : Result A ManifestFault) → Reads answer due → Reads seen (within (Item place) due)

-- nothing stands before the first item
none-before : {A : Type 0} (r : Result (List A) ManifestFault) → and_read r (λ others. Ok ([] ++ others)) ≡ r
none-before (Ok xs) = refl
none-before (Err f) = refl

-- at first all answers are left
pub all-left : {A : Type 0} (read : Data → Result A ManifestFault) (values : Items) (answers : List (Result A ManifestError)) → AllRead read values answers → IsLeft read values 0 [] answers
all-left read values answers all = (values, all, none-before (items_read read 0 values))

one-more : {A : Type 0} (x : A) (gathered : List A) (r : Result (List A) ManifestFault)
    → and_read r (λ others. Ok ((gathered ++ x ∷ []) ++ others)) ≡ and_read (and_read r (λ others. Ok (x ∷ others))) (λ others. Ok (gathered ++ others))
one-more x gathered (Ok xs) = let same : (gathered ++ x ∷ []) ++ xs ≡ gathered ++ x ∷ xs = grind (arith, common_steps) in rw same
one-more x gathered (Err f) = refl

-- an item without a fault goes behind what was gathered
pub one_more-left : {A : Type 0} (read : Data → Result A ManifestFault) (values : Items) (place : ℕ) (gathered : List A) (answer : Result A ManifestError) (answers : List (Result A ManifestError)) (x : A)
    → IsLeft read values place gathered (answer ∷ answers) → Passes place answer (Ok x) → IsLeft read values (place + 1) (gathered ++ x ∷ []) answers
one_more-left read values place gathered answer answers x (no_items, all, same) passes = absurd all
one_more-left read values place gathered answer answers x (item d ds, all, same) passes =
    let is : within (Item place) (read d) ≡ Ok x = passes (read d) all.0 in
    (ds, all.1, one-more x gathered (items_read read (place + 1) ds) ∙ (rw is at same))

fault-first : {A : Type 0} (error : ManifestError) (gathered : List A) (here : Result A ManifestFault) (others : Result (List A) ManifestFault) (whole : Result (List A) ManifestFault)
    → and_read (and_read here (λ first. and_read others (λ more. Ok (first ∷ more)))) (λ more. Ok (gathered ++ more)) ≡ whole → IsFaultOf error here → IsFaultOf error whole
fault-first (At fault) gathered here others whole same is = sym same ∙ ap (λ r. and_read (and_read r (λ first. and_read others (λ more. Ok (first ∷ more)))) (λ more. Ok (gathered ++ more))) is
fault-first Memory gathered here others whole same is = tt

-- the first item with a fault gives that of the list
pub fault-left : {A : Type 0} (read : Data → Result A ManifestFault) (values : Items) (place : ℕ) (gathered : List A) (answer : Result A ManifestError) (answers : List (Result A ManifestError)) (error : ManifestError)
    → IsLeft read values place gathered (answer ∷ answers) → Passes place answer (Err error) → IsFaultOf error (items_read read 0 values)
fault-left read values place gathered answer answers error (no_items, all, same) passes = absurd all
fault-left read values place gathered answer answers error (item d ds, all, same) passes =
    fault-first error gathered (within (Item place) (read d)) (items_read read (place + 1) ds) (items_read read 0 values) same (passes (read d) all.0)

-- where no answer is left, what was gathered is what the list gives
pub none-left : {A : Type 0} (read : Data → Result A ManifestFault) (values : Items) (place : ℕ) (gathered : List A) (answers : List (Result A ManifestError)) → length answers ≡ 0
    → IsLeft read values place gathered answers → items_read read 0 values ≡ Ok gathered
none-left read values place gathered [] none (no_items, all, same) =
    let end : gathered ++ [] ≡ gathered = grind (arith, common_steps) in sym same ∙ ap (λ (xs : List _). Ok xs) end
none-left read values place gathered [] none (item d ds, all, same) = absurd all
none-left read values place gathered (answer ∷ answers) none left = absurd (omega arith)

-- what a function answers of each value of a list is read of the value's data
pub all_read-zip : {F A : Type 0} (g : Shared F (Bor (Value Global) × Unit {0}) (Result A ManifestError)) (f : F) (read : Data → Result A ManifestFault)
    → ((shown : Bor (Value Global)) (r : Result A ManifestError) → g.post f (shown, tt) r → Reads r (read (view shown.now)))
    → (vs : List (Value Global)) (answers : List (Result A ManifestError)) → AllZip (FnReturnsAt g f) vs answers → AllRead read (items_view vs) answers
all_read-zip g f read says [] [] zip = tt
all_read-zip g f read says [] (r ∷ rs) zip = absurd zip
all_read-zip g f read says (v ∷ vs) [] zip = absurd zip
all_read-zip g f read says (v ∷ vs) (r ∷ rs) zip =
    (subst (λ (x : Value Global). Reads r (read (view x))) zip.0.shows (says zip.0.shown r zip.0.says.met), all_read-zip g f read says vs rs zip.1)

-- what holds of a value if there is one
pub of_some : {A : Type 0} (o : Option A) (a : A) (P : A → Type 0) → o ≡ Some a → IfSome o P → P a
of_some {A} o a P is h = subst (λ (o : Option A). IfSome o P) is h
