-- What the bytes of an item begin with.
use Rattle.std.proofs.Common.{◌≡◌, ℕ, ◌<◌, List, ◌++◌, Option, Some, None, ◌^◌, lit<, refl, ◌∙◌, ap}
use Rattle.std.proofs.lemmas.List.{append_assoc}
use Rattle.std.specs.List.{flat_map}
use Rattle.link_verdef.specs.declared.item.VersionItem.{VersionItem}
use Rattle.link_verdef.specs.declared.record.Verdaux.{Verdaux}
use Rattle.link_verdef.specs.Records.{item_bytes, name_count, verdaux_bytes, verdauxes_of, verdef_bytes, verdef_of}

-- an item's own name
abbrev pub own_name : (ℕ → ℕ) → ℕ → Option ℕ → Verdaux
own_name place number None = record { vda_name = place number; vda_next = 0 }
own_name place number (Some parent) = record { vda_name = place number; vda_next = 8 }

-- what stands behind it: the parent's name, if there is one, and then more
abbrev pub behind_own : (ℕ → ℕ) → Option ℕ → List ℕ → List ℕ
behind_own place None more = more
behind_own place (Some parent) more = verdaux_bytes (record { vda_name = place parent; vda_next = 0 }) ++ more

own_then_behind : (place : ℕ → ℕ) (number : ℕ) (parent : Option ℕ) (more : List ℕ) → flat_map verdaux_bytes (verdauxes_of place number parent) ++ more
    ≡ verdaux_bytes (own_name place number parent) ++ behind_own place parent more
own_then_behind place number None more = refl
own_then_behind place number (Some parent) more = refl

-- the bytes of an item are its definition, its own name and what stands behind it
pub item_bytes_then : (count number : ℕ) (place : ℕ → ℕ) (item : VersionItem) (more : List ℕ) → item_bytes count place (number, item) ++ more
    ≡ verdef_bytes (verdef_of count number item) ++ (verdaux_bytes (own_name place number item.parent) ++ behind_own place item.parent more)
item_bytes_then count number place item more =
    append_assoc (verdef_bytes (verdef_of count number item)) (flat_map verdaux_bytes (verdauxes_of place number item.parent)) more
    ∙ ap (λ xs. verdef_bytes (verdef_of count number item) ++ xs) (own_then_behind place number item.parent more)

-- one name alone: there is no parent
pub alone : (place : ℕ → ℕ) (parent : Option ℕ) (names : ℕ) (behind more : List ℕ) → names ≡ name_count parent → names ≡ 1
    → behind ≡ behind_own place parent more → (None ≡ parent) × (behind ≡ more)
alone place None names behind more count one e = (refl, e)
alone place (Some p) names behind more count one e = cc

-- two names: the second one is the parent's
pub extending : (place : ℕ → ℕ) (parent : Option ℕ) (names : ℕ) (behind more : List ℕ) → names ≡ name_count parent → (names ≡ 1 → ⊥)
    → behind ≡ behind_own place parent more
    → (p : ℕ) × (parent ≡ Some p) × (behind ≡ verdaux_bytes (record { vda_name = place p; vda_next = 0 }) ++ more)
extending place None names behind more count several e = absurd (several count)
extending place (Some p) names behind more count several e = (p, refl, e)

pub count_fits : (parent : Option ℕ) → name_count parent < 2 ^ 16
count_fits None = lit< tt
count_fits (Some p) = lit< tt

pub own_fits : (place : ℕ → ℕ) (number : ℕ) (parent : Option ℕ) → place number < 2 ^ 32 → (own_name place number parent).vda_name < 2 ^ 32
own_fits place number None h = h
own_fits place number (Some p) h = h
