-- Whether some glob of a list fits a text.
use Rattle.std.proofs.Common.{◌≡◌, ℕ, zero, suc, Bool, true, false, ◌||◌, if◌then◌else◌, List, [], ◌∷◌, length, Option, Some, None, refl, ◌∙◌}
use Rattle.std.specs.Option.{is_some}
use Rattle.link_glob.specs.Glob.{GlobToken, does_match}
use Rattle.link_glob.specs.GlobList.{last_of, fits_at, last_fit}
use Rattle.link_script.specs.Rules.{has_glob}

some_on : (here first : Bool) (n : ℕ) (more rest : Option ℕ) → is_some more ≡ (first || is_some rest) → is_some (if here then Some (suc n) else more) ≡ (first || is_some (if here then Some n else rest))
some_on true true n more rest e = refl
some_on true false n more rest e = refl
some_on false first n more rest e = e

alone : (first : Bool) → is_some {T = ℕ} (if first then Some 0 else None) ≡ (first || false)
alone true = refl
alone false = refl

some_from : (glob : List GlobToken) (globs : List (List GlobToken)) (name : List ℕ) (n : ℕ)
    → is_some (last_of (fits_at (glob ∷ globs) name) (suc n)) ≡ (does_match glob name || is_some (last_of (fits_at globs name) n))
some_from glob globs name zero = alone (does_match glob name)
some_from glob globs name (suc n) =
    some_on (fits_at globs name n) (does_match glob name) n (last_of (fits_at (glob ∷ globs) name) (suc n)) (last_of (fits_at globs name) n) (some_from glob globs name n)

or_same : (a b c : Bool) → b ≡ c → (a || b) ≡ (a || c)
or_same true b c e = refl
or_same false b c e = e

some_below : (globs : List (List GlobToken)) (name : List ℕ) → is_some (last_of (fits_at globs name) (length globs)) ≡ has_glob globs name
some_below [] name = refl
some_below (glob ∷ globs) name = some_from glob globs name (length globs) ∙ or_same (does_match glob name) _ _ (some_below globs name)

-- there is a last glob that fits where one fits
pub some_fits : (globs : List (List GlobToken)) (name : List ℕ) → is_some (last_fit globs name) ≡ has_glob globs name
unfolding last_fit
some_fits globs name = some_below globs name
