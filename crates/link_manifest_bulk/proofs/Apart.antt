-- Which names of a made-up link are the same.
use Rattle.std.proofs.Common.{◌≡◌, ℕ, ◌≤◌, List, ap, arith, drop, get_or}
use Rattle.std.proofs.lemmas.Fmt.{decimal_injective}
use Rattle.link_manifest_bulk.specs.Names.{own_name, shared_name}

-- a name that is one member's own is no other member's own
pub own-once : (i j : ℕ) → i ≤ 100000 → j ≤ 100000 → own_name i ≡ own_name j → i ≡ j
own-once i j first second same = decimal_injective i j (omega arith) (omega arith) (ap (λ (name : List ℕ). drop 1 name) same)

-- a name that is a member's own is not shared
pub own-unshared : (i j : ℕ) → own_name i ≡ shared_name j → ⊥
own-unshared i j same =
    let first : 115 ≡ 99 = ap (λ (name : List ℕ). get_or name 0 0) same in
    omega (arith, first)
