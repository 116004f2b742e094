-- Maps from names, and sets of names.
use Rattle.std.specs.Prelude.{◌≡◌, ℕ, List, [], ◌∷◌, Bool, false, ◌||◌, Option, Some, None, is_some, map}
use Rattle.std.specs.Map.{lookup}
use Rattle.std.specs.List.{list_any}
use Rattle.std.specs.Str.{bytes_eq}
use Rattle.std.specs.Global.{Vec}

-- names, and what is noted of each
abbrev pub Noted : Type 0 → Type 0
Noted V = List (List ℕ × V)

-- the entries of a map, by the bytes of their keys
abbrev pub noted_in : {V : Type 0} → List (Vec ℕ × V) → Noted V
noted_in {V} entries = map (λ (e : Vec ℕ × V). (e.0.items, e.1)) entries

-- what is noted of a name
abbrev pub value_in : {V : Type 0} → Noted V → List ℕ → Option V
value_in noted asked = lookup (λ candidate. bytes_eq asked candidate) noted

-- what stands here of each name is what is noted of it
abbrev pub AreNoted : {V : Type 0} → Noted V → Noted V → Type 0
AreNoted noted [] = Unit {0}
AreNoted noted (e ∷ some) = (value_in noted e.0 ≡ Some e.1) × AreNoted noted some

-- whether a name is one of these
abbrev pub has_name : List (List ℕ) → List ℕ → Bool
has_name names asked = list_any (λ candidate. bytes_eq asked candidate) names

-- Of each name in a set is noted that it is a member, or, with `false`, that there is room for it alone.
abbrev pub Names : Type 0
Names = Noted Bool

abbrev pub noted_true : Option Bool → Bool
noted_true None = false
noted_true (Some b) = b

-- whether a name is in the set
abbrev pub is_member : Names → List ℕ → Bool
is_member names asked = noted_true (value_in names asked)

-- whether the name is taken without memory
abbrev pub has_room : Names → List ℕ → Bool
has_room names asked = is_some (value_in names asked)

-- the new set has this name and the old ones
abbrev pub AddsName : List ℕ → Names → Names → Type 0
AddsName added old new = (asked : List ℕ) → is_member new asked ≡ (bytes_eq asked added || is_member old asked)
