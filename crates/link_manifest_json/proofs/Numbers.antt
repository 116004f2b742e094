-- Numbers that are no whole numbers.
use Rattle.std.proofs.Common.{◌≡◌, Bool, true, false, Some, None, refl, if◌then◌else◌}
use Rattle.std.specs.Prelude.{ℤ, Float}
use Rattle.fast_float.specs.Text.{Parts}
use Rattle.serde_json.specs.Data.{negative, float}
use Rattle.serde_json.specs.Find.{as_u64}
use Rattle.serde_json.specs.Read.{float_of, number_from}
use Rattle.link_manifest_json.specs.Tree.{number_or}

a-float : (finite : Bool) (x : Float) → as_u64 (number_or (if finite then Some (float x) else None)) ≡ None
a-float true x = refl
a-float false x = refl

-- a number that is no integer is no whole number
pub none_float : (sign : Bool) (p : Parts) → as_u64 (number_or (float_of sign p)) ≡ None
none_float sign p = a-float _ _

below : (fits : Bool) (z : ℤ) (p : Parts) → as_u64 (number_or (if fits then Some (negative z) else float_of true p)) ≡ None
below true z p = refl
below false z p = none_float true p

-- a number with a minus is no whole number
pub none-below : (p : Parts) → as_u64 (number_or (number_from true p)) ≡ None
none-below p = below _ _ p
