-- The tables of batches, one batch after another.
use Rattle.std.proofs.Common.{◌≡◌, ℕ, ◌+◌, Bool, List, [], ◌∷◌, ◌++◌, Result, Ok, Err, map, refl, ap, arith}
use Rattle.std.specs.Prelude.{IfErr, IfOk, ⊤}
use Rattle.std.proofs.lemmas.Grind.{common_steps}
use Rattle.link_input.specs.declared.world.Inputs.{Inputs}
use Rattle.link_manifest.specs.declared.contents.UncheckedBatch.{UncheckedBatch}
use Rattle.link_manifest.specs.declared.fault.ManifestError.{ManifestError}
use Rattle.link_manifest.specs.declared.fault.ManifestError.TheVariants.{At, Memory}
use Rattle.link_manifest.specs.declared.fault.ManifestFault.{ManifestFault}
use Rattle.link_manifest.specs.declared.fault.Step.TheVariants.{Item}
use Rattle.link_manifest.specs.Batches.{inputs_of}
use Rattle.link_manifest.specs.Checked.{batch_checked, batches_checked}
use Rattle.link_manifest.specs.Reading.{and_read, IsFaultOf, outward, Reads, within}

-- what is read where a check passes is the one thing that it may be
pub read-same : {A : Type 0} (place : ℕ) (checked : Result ⊤ ManifestFault) (x : A) (r : Result A ManifestError)
    → Reads r (within (Item place) (and_read checked (λ _. Ok x))) → IfOk r (λ c. c ≡ x)
read-same place (Ok u) x (Ok c) is = let same = is in cc
read-same place (Ok u) x (Err e) is = tt
read-same place (Err f) x (Ok c) is = absurd (let wrong = is in cc)
read-same place (Err f) x (Err e) is = tt

-- and the check passes
pub read-passes : {A : Type 0} (place : ℕ) (checked : Result ⊤ ManifestFault) (x : A) (r : Result A ManifestError)
    → Reads r (within (Item place) (and_read checked (λ _. Ok x))) → IfOk r (λ _. checked ≡ Ok tt)
read-passes place (Ok u) x (Ok c) is = refl
read-passes place (Ok u) x (Err e) is = tt
read-passes place (Err f) x (Ok c) is = absurd (let wrong = is in cc)
read-passes place (Err f) x (Err e) is = tt

-- else its fault is told
pub read-fails : {A : Type 0} (place : ℕ) (checked : Result ⊤ ManifestFault) (x : A) (r : Result A ManifestError)
    → Reads r (within (Item place) (and_read checked (λ _. Ok x))) → IfErr r (λ e. IsFaultOf e (within (Item place) checked))
read-fails place (Ok u) x (Ok c) is = tt
read-fails place (Ok u) x (Err (At fault)) is = absurd (let wrong = is in cc)
read-fails place (Ok u) x (Err Memory) is = tt
read-fails place (Err f) x (Ok c) is = tt
read-fails place (Err f) x (Err (At fault)) is = let same : outward (Item place) f ≡ fault = (let told = is in cc) in ap (λ (y : ManifestFault). Err y) same
read-fails place (Err f) x (Err Memory) is = tt

-- a batch whose tables pass goes behind those that were checked
pub one_more-batch : {P : Type 0} (has_null : Bool) (place : ℕ) (done : List (Inputs P)) (batch : UncheckedBatch) (rest : List UncheckedBatch)
    → batch_checked has_null batch ≡ Ok tt
    → and_read (batches_checked has_null (place + 1) rest) (λ _. Ok ((done ++ inputs_of batch ∷ []) ++ map inputs_of rest))
    ≡ and_read (batches_checked has_null place (batch ∷ rest)) (λ _. Ok (done ++ map inputs_of (batch ∷ rest)))
one_more-batch has_null place done batch rest passes =
    let whole : (done ++ inputs_of batch ∷ []) ++ map inputs_of rest ≡ done ++ inputs_of batch ∷ map inputs_of rest = grind (arith, common_steps) in
    rw (passes, whole) refl
