-- The first zero byte of a string table.
use Rattle.std.proofs.Common.{◌≡◌, ℕ, ◌<◌, Bool, true, false, eqb, cond, List, [], ◌∷◌, ◌++◌, length, get_or, Some, None, arith, refl, ap}
use Rattle.std.proofs.lemmas.Bool.{lt-ltb, ltb-false, or_parts}
use Rattle.std.proofs.lemmas.List.{length-append}
use Rattle.std.proofs.lemmas.List.Sums.{fails_before_first}
use Rattle.std.specs.List.{list_any, position, position_or_len}
use Rattle.link_verdef.specs.declared.item.VersionItem.{VersionItem}
use Rattle.link_verdef.specs.Image.{first_with_zero}
use Rattle.link_verdef.specs.Strings.{has_zero}

abbrev pub is_zero : ℕ → Bool
is_zero byte = eqb byte 0

-- a name without a zero byte goes up to the zero byte behind it
zero_behind : (name more : List ℕ) → list_any is_zero name ≡ false → position_or_len is_zero (name ++ 0 ∷ more) ≡ length name
zero_behind [] more h = refl
zero_behind (byte ∷ name) more h =
    let parts = or_parts (is_zero byte) (list_any is_zero name) h in
    rw parts.0 (omega (arith, zero_behind name more parts.1))

-- so the first zero byte is found there
pub first_zero : (name more : List ℕ) → list_any is_zero name ≡ false → position is_zero (name ++ 0 ∷ more) ≡ Some (length name)
first_zero name more h =
    let e = zero_behind name more h in
    let within : position_or_len is_zero (name ++ 0 ∷ more) < length (name ++ 0 ∷ more) = omega (arith, e, length-append name (0 ∷ more)) in
    rw (lt-ltb (position_or_len is_zero (name ++ 0 ∷ more)) (length (name ++ 0 ∷ more)) within) (ap (λ n. Some n) e)

no_some : (b : Bool) (n : ℕ) → cond b (Some n) None ≡ None → b ≡ false
no_some true n h = cc
no_some false n h = refl

-- what no item is the first to have, none has
pub none_has_zero : (items : List VersionItem) (i : ℕ) (d : VersionItem) → first_with_zero items ≡ None → i < length items → has_zero (get_or items i d) ≡ false
none_has_zero items i d h within =
    let past = ltb-false (position_or_len has_zero items) (length items) (no_some _ _ h) in
    fails_before_first has_zero items i d (omega (arith, past))
