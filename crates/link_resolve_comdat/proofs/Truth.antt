-- Laws of `or`.
use Rattle.std.proofs.Common.{◌≡◌, ◌||◌, Bool, true, false, refl}

pub or-assoc : (a b c : Bool) → ((a || b) || c) ≡ (a || (b || c))
or-assoc true b c = refl
or-assoc false b c = refl

pub or-false : (b : Bool) → (b || false) ≡ b
or-false true = refl
or-false false = refl
