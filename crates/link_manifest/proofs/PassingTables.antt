-- The tables of objects, one object after another.
use Rattle.std.proofs.Common.{◌≡◌, ℕ, ◌+◌, Bool, List, [], ◌∷◌, ◌++◌, None, Ok, refl, arith}
use Rattle.std.proofs.lemmas.Grind.{common_steps}
use Rattle.link_input.specs.Checks.{first_fault}
use Rattle.link_input.specs.ObjectFile.{ObjectFile}
use Rattle.link_manifest.specs.Checked.{tables_checked}
use Rattle.link_manifest.specs.Reading.{and_read}

-- an object whose table passes goes behind those that were checked
pub one_more-passes : (has_null : Bool) (place : ℕ) (done : List ObjectFile) (object : ObjectFile) (rest : List ObjectFile)
    → first_fault has_null object.object ≡ None
    → and_read (tables_checked has_null (place + 1) rest) (λ _. Ok ((done ++ object ∷ []) ++ rest))
    ≡ and_read (tables_checked has_null place (object ∷ rest)) (λ _. Ok (done ++ object ∷ rest))
one_more-passes has_null place done object rest passes =
    let whole : (done ++ object ∷ []) ++ rest ≡ done ++ object ∷ rest = grind (arith, common_steps) in
    rw (passes, whole) refl
