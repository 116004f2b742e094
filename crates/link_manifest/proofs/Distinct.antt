-- Names of which none repeats an earlier one.
use Rattle.std.proofs.Common.{◌≡◌, ◌+◌, ◌<◌, ℕ, Bool, true, false, List, [], ◌∷◌, length, get_or, get_or-take, take, zero, suc, refl, Option, Some, None, Result, Ok, Err, OnOk, if◌then◌else◌, add-zero, length-take, arith}
use Rattle.std.specs.Prelude.{⊤}
use Rattle.std.specs.Str.{bytes_eq}
use Rattle.std.proofs.lemmas.Bool.{both_ways}
use Rattle.std.proofs.lemmas.List.Folds.{list_any_at}
use Rattle.std.proofs.lemmas.Slice.Eq.{bytes_eq-Decides}
use Rattle.link_input.specs.Checks.{first_place}
use Rattle.link_manifest.specs.declared.fault.ManifestError.{ManifestError}
use Rattle.link_manifest.specs.declared.fault.Step.{Step}
use Rattle.link_manifest.specs.Checked.{AreDistinct, names_checked, none_repeated, repeats_name}
use Rattle.link_manifest.specs.Reading.{Reads, within}

-- a search that finds nothing finds nothing here, and nothing behind
none-parts : (b : Bool) (i : ℕ) (o : Option ℕ) → (if b then Some i else o) ≡ None → (b ≡ false) × (o ≡ None)
none-parts true i o e = cc
none-parts false i o e = (refl, e)

-- where a test holds at no place, it fails at each
fails-each : {A : Type 0} (p : ℕ → A → Bool) (i : ℕ) (xs : List A) → first_place p i xs ≡ None → (k : ℕ) (d : A) → k < length xs → p (i + k) (get_or xs k d) ≡ false
fails-each p i [] e k d lt = absurd (omega arith)
fails-each p i (x ∷ xs) e zero d lt = rw add-zero ((none-parts (p i x) i (first_place p (i + 1) xs) e).0)
fails-each p i (x ∷ xs) e (suc k) d lt =
    let later = fails-each p (i + 1) xs ((none-parts (p i x) i (first_place p (i + 1) xs) e).1) k d (omega arith) in
    let same : i + 1 + k ≡ i + suc k = omega arith in
    rw same at later

-- names of which none repeats an earlier one are distinct
distinct-none : (names : List (List ℕ)) → first_place (repeats_name names) 0 names ≡ None → AreDistinct names
distinct-none names none = λ i j d before lt same.
    let name = get_or names j d in
    let alone = fails-each (repeats_name names) 0 names none j d lt in
    let place : 0 + j ≡ j = omega arith in
    let there : i < length (take j names) = omega (arith, length-take j names) in
    let found = list_any_at (λ candidate. bytes_eq name candidate) (take j names) i d there
    (rw (get_or-take j names i d before, same) ((bytes_eq-Decides name name).1 refl)) in
    both_ways _ (rw place at alone) found

-- a place that is told is there
told-none : (step : Step) (place : Option ℕ) (done : ⊤) → within step (none_repeated place) ≡ Ok done → place ≡ None
told-none step None done e = refl
told-none step (Some place) done e = cc

-- names that pass the check are distinct
pub distinct-ok : (step : Step) (names : List (List ℕ)) (result : Result ⊤ ManifestError) → Reads result (within step (names_checked names)) → OnOk result (AreDistinct names)
distinct-ok step names (Ok done) read = distinct-none names (told-none step (first_place (repeats_name names) 0 names) done read)
distinct-ok step names (Err error) read = tt
